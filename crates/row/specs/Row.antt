-- Request [1] of document 02: a row in one call. First its tests, in the paper's order, then ask and put of each pixel as the single calls
-- are; the first refusal ends it.
use Rattle.std.specs.Prelude.{Bool, ◌&&◌, not, List, ◌≡◌, refl, ℕ, zero, suc, ◌+◌, ◌*◌, ◌/◌, ◌%◌, leb, eqb, ℤ, pos, length, get_or, set, take, drop, Result, Ok, Err}
use Rattle.std.proofs.Common.{ap, sym, ◌∙◌}
use Rattle.blend.specs.Blend.{in_range}
use Rattle.cells.specs.Cells.{cells_needed}
use Rattle.refusal.specs.Paper.{Outcome, gives, refuses, number_of, details_of, read_back, reads_back, one_value}
use Rattle.refusal.specs.declared.Refusal.{Refusal}
use Rattle.session.specs.Session.{width, column, is_pixel, asks, puts}
use Rattle.session.specs.declared.Session.{Session}
use Rattle.weighted.specs.State.{test}
use Rattle.row.specs.declared.Stopped.{Stopped}

-- ---- the tests: 12, 11, 13

-- a residual and a context for each pixel, and reference cells, as many for each
abbrev pub fits : ℕ → ℕ → ℕ → ℕ → Bool
fits width residuals contexts references = eqb residuals width && (eqb contexts width && eqb (references % width) 0)

-- 32 bits must say how many cells a pixel needs
abbrev pub is_row_of : Session → ℕ → ℕ → ℕ → ℕ → Bool
is_row_of s size residuals contexts references =
    is_pixel s size && (fits (width s) residuals contexts references && leb (cells_needed s.mask (references / width s)) 4294967295)

-- an ask that opens a row is due
abbrev pub is_row_due : Session → Bool
is_row_due s = s.live && (not s.weighted.asked && eqb (column s) 0)

abbrev pub may_unpack : Session → ℕ → ℕ → ℕ → ℕ → Outcome Unit
may_unpack s size residuals contexts references =
    test (in_range s.weighted.header) 12 0
    (test (is_row_of s size residuals contexts references) 11 0
    (test (is_row_due s) 13 0 (gives tt)))

-- ---- the pixels

-- how it ends: with all pixels put, or so many before a refusal
pub data Ended : Type 0 where
  all : Session → Ended
  halted : ℕ → ℕ → List ℤ → Session → Ended

-- what is told of it, and the session that is left
pub data Answer : Type 0 where
  complete : Answer
  stopped : ℕ → ℕ → List ℤ → Answer

abbrev pub answer_of : Ended → Answer
answer_of (all s) = complete
answer_of (halted pixels number details s) = stopped pixels number details

abbrev pub session_of : Ended → Session
session_of (all s) = s
session_of (halted pixels number details s) = s

pub record Row : Type 0 where
  pub ended : Ended
  pub plane : List ℤ
  pub contexts : List ℕ
  pub cells : List ℤ
  pub memory : List ℕ

abbrev pub row_of : Ended → List ℤ → List ℕ → List ℤ → List ℕ → Row
row_of ended plane contexts cells m = record { ended = ended; plane = plane; contexts = contexts; cells = cells; memory = m }

-- a refusal ends it, an answer leads on
abbrev pub next : {A : Type 0} → Outcome A → (ℕ → List ℤ → Row) → (A → Row) → Row
next (gives a) ends goes_on = goes_on a
next (refuses number details) ends goes_on = ends number details

module _ (residuals references records : List ℤ) (each : ℕ) where
  -- the reference cells of pixel k
  abbrev pub part_of : ℕ → List ℤ
  part_of k = take each (drop (k * each) references)

  -- ask and put of so many pixels from column k on
  unfoldable pub pixels_from : ℕ → ℕ → Session → List ℤ → List ℕ → List ℤ → List ℕ → Row
  pixels_from zero k s plane contexts cells m = row_of (all s) plane contexts cells m
  pixels_from (suc n) k s plane contexts cells m =
      let a = asks s plane (part_of k) records cells m in
      next a.says
      (λ number details. row_of (halted k number details a.session) plane contexts a.cells m)
      (λ context.
      let p = puts a.session (get_or residuals k (pos 0)) plane m in
      next p.says
      (λ number details. row_of (halted k number details p.session) p.plane (set contexts k context) a.cells p.memory)
      (λ done. pixels_from n (k + 1) p.session p.plane (set contexts k context) a.cells p.memory))

-- a refusal of the tests changes nothing
abbrev pub unpacks_by : Outcome Unit → Row → Session → List ℤ → List ℕ → List ℤ → List ℕ → Row
unpacks_by (gives done) row s plane contexts cells m = row
unpacks_by (refuses number details) row s plane contexts cells m = row_of (halted 0 number details s) plane contexts cells m

unfoldable pub unpacks : Session → List ℤ → List ℤ → List ℤ → List ℤ → List ℕ → List ℤ → List ℕ → Row
unpacks s residuals references records plane contexts cells m =
    unpacks_by (may_unpack s (length plane) (length residuals) (length contexts) (length references))
    (pixels_from residuals references records (length references / width s) (width s) 0 s plane contexts cells m)
    s plane contexts cells m

-- ---- the answer in these terms, and determinacy

abbrev pub said : Result Unit Stopped → Answer
said (Ok u) = complete
said (Err e) = stopped e.pixels (number_of e.refusal) (details_of e.refusal)

abbrev unsaid : Answer → Result Unit Stopped
unsaid complete = Ok tt
unsaid (stopped pixels n ds) = Err (record { pixels = pixels; refusal = read_back n ds })

said_again : (r : Result Unit Stopped) → unsaid (said r) ≡ r
said_again (Ok u) = refl
said_again (Err e) = ap (λ (x : Refusal). Err (record { pixels = e.pixels; refusal = x })) (reads_back e.refusal)

pub unpacks_determined : (it : Row) {r t : Result Unit Stopped} {s s₁ : Session} {plane plane₁ : List ℤ} {contexts contexts₁ : List ℕ} {cells cells₁ : List ℤ} {m m₁ : List ℕ}
    → said r ≡ answer_of it.ended → s ≡ session_of it.ended → plane ≡ it.plane → contexts ≡ it.contexts → cells ≡ it.cells → m ≡ it.memory
    → said t ≡ answer_of it.ended → s₁ ≡ session_of it.ended → plane₁ ≡ it.plane → contexts₁ ≡ it.contexts → cells₁ ≡ it.cells → m₁ ≡ it.memory
    → (r ≡ t) × (s ≡ s₁) × (plane ≡ plane₁) × (contexts ≡ contexts₁) × (cells ≡ cells₁) × (m ≡ m₁)
unpacks_determined it {r} {t} a b c d e f a₁ b₁ c₁ d₁ e₁ f₁ = (
  sym (said_again r) ∙ ap unsaid (one_value a a₁) ∙ said_again t,
  one_value b b₁,
  one_value c c₁,
  one_value d d₁,
  one_value e e₁,
  one_value f f₁,
)
