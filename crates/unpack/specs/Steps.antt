-- A channel over a plane in which each pixel's residual stands where its value will: ask, then put what stands there, pixel after pixel.
use Rattle.std.specs.Prelude.{List, [], ◌≡◌, ℕ, zero, suc, ℤ, pos, get_or, Result, Ok, Err, IfErr}
use Rattle.session.specs.Session.{asks, puts}
use Rattle.refusal.specs.declared.Refusal.{Refusal}
use Rattle.session.specs.declared.Session.{Session}
use Rattle.unpack.specs.declared.channel.Stopped.{Stopped}

-- the session and what is lent, before a pixel
pub record Before : Type 0 where
  pub session : Session
  pub plane : List ℤ
  pub cells : List ℤ
  pub memory : List ℕ

module _ (records : List ℤ) where
  abbrev pub one_pixel : ℕ → Before → Before
  one_pixel k b =
      let a = asks b.session b.plane [] records b.cells b.memory in
      let p = puts a.session (get_or b.plane k (pos 0)) b.plane b.memory in
      record { session = p.session; plane = p.plane; cells = a.cells; memory = p.memory }

  unfoldable pub steps : Before → ℕ → Before
  steps b zero = b
  steps b (suc k) = one_pixel k (steps b k)

-- what holds of a refusal
abbrev pub IfRefused : Result Unit Refusal → Type 0 → Type 0
IfRefused r P = IfErr r (λ refusal. P)

-- how many pixels are done: without a refusal all
abbrev pub done_of : ℕ → Result Unit Stopped → ℕ
done_of count (Ok done) = count
done_of count (Err stopped) = stopped.done
