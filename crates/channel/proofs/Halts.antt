-- A row call that is refused: by its tests or the first ask's arguments, and nothing is changed; or by a walk, which closes the session,
-- and the pixels before it stay put. No argument can be at fault in the middle of a row, and no put is refused.
use lib.IntN.{ℤ}
use lib.ListN.{length, drop, length-drop}
use lib.Seq.{length-take-le}
use mathlib.Core.Bool.{false}
use mathlib.Core.List.{List}
use mathlib.Core.Logic.{◌⊎◌, inl, inr}
use mathlib.Core.Path.{◌≡◌, refl, sym, ap, ◌∙◌}
use native.Mathlib.Nat.{mul-le-mul_right}
use native.Mathlib.Omega.{arith}
use Prim.Native.Nat.{ℕ, zero, suc, ◌+◌, ◌*◌, ◌/◌, ◌≤◌, ◌<◌}
use Rattle.refusal.specs.Paper.{Outcome, gives, refuses}
use Rattle.row.proofs.Granted.{RowGranted, row_granted}
use Rattle.row.specs.Row.{Row, row_of, all, halted, pixels_from, may_unpack, unpacks_by, unpacks}
use Rattle.session.specs.Session.{width, column, closed, asks}
use Rattle.session.specs.declared.Session.{Session}
use Rattle.walk.specs.declared.PredictionResult.{PredictionResult}
use Rattle.channel.proofs.Neighbours.{AreWords}
use Rattle.channel.proofs.RowPixel.{Left, Given, pixels, share, tests, Passes, walk, on, ask_ends, row_ends, goes_on, column_on, passes_on}

-- ---- the pixels after an ask that passed its tests

module _ (c : Given) where
  none_put : (k : ℕ) (b : Left) → pixels c 0 k b ≡ row_of (all b.session) b.plane b.contexts b.cells b.memory
  unfolding pixels_from
  none_put k b = refl

  -- The ask of pixel j was refused by its walk: the pixels before it, and no others, are put, and the session that they left is closed.
  pub record Stopped (before it : Row) (j number : ℕ) (details : List ℤ) (s' : Session) : Type 0 where
    pub session : Session
    pub cells : List ℤ
    pub put : before ≡ row_of (all session) it.plane it.contexts cells it.memory
    pub asked : asks session it.plane (share c j) c.records cells it.memory ≡ record { says = refuses number details; session = s'; cells = it.cells }
    pub closes : s' ≡ closed session

  pub not_live : {before it : Row} {j number : ℕ} {details : List ℤ} {s' : Session} → Stopped before it j number details s' → s'.live ≡ false
  not_live stopped = ap (λ (s : Session). s.live) stopped.closes

  -- so many pixels are left of the row, and the next ask passes its tests
  record Ready (n k : ℕ) (b : Left) : Type 0 where
    left : column b.session + n ≡ width b.session
    passes : Passes c k b

  record Halts (n k : ℕ) (b : Left) (j number : ℕ) (details : List ℤ) (s' : Session) : Type 0 where
    many : ℕ
    below : many < n
    at : j ≡ k + many
    stopped : Stopped (pixels c many k b) (pixels c n k b) j number details s'

  module _ (j number : ℕ) (details : List ℤ) (s' : Session) where
    by_walk : (n k : ℕ) (b : Left) (ok : Passes c k b) (o : Outcome PredictionResult) → walk c k b ok ≡ o → (pixels c (suc n) k b).ended ≡ halted j number details s'
        → ((r : PredictionResult) → (pixels c n (k + 1) (on c k b ok r)).ended ≡ halted j number details s' → Halts n (k + 1) (on c k b ok r) j number details s')
        → Halts (suc n) k b j number details s'
    by_walk n k b ok (refuses number' details') is ends later =
        let row = row_ends c k b ok number' details' is n in
        let same : halted k number' details' (closed b.session) ≡ halted j number details s' = sym (ap (λ (it : Row). it.ended) row) ∙ ends in
        let at : j ≡ k = cc in
        let number_is : number ≡ number' = cc in
        let details_are : details ≡ details' = cc in
        let closes : s' ≡ closed b.session = cc in
        record {
          many = 0;
          below = omega arith;
          at = omega arith;
          stopped =
              rw (row, none_put k b, at, number_is, details_are, closes)
              (record { session = b.session; cells = b.cells; put = refl; asked = ask_ends c k b ok number' details' is; closes = refl });
        }
    by_walk n k b ok (gives r) is ends later =
        let same = goes_on c k b ok r n is in
        let there = later r (rw same at ends) in
        record {
          many = suc there.many;
          below = omega (arith, there.below);
          at = omega (arith, there.at);
          stopped = rw (goes_on c k b ok r there.many is, same) there.stopped;
        }

    stops : (n k : ℕ) (b : Left) → ((i : ℕ) → i < k + n → length (share c i) ≡ c.each) → (0 < n → Ready n k b)
        → (pixels c n k b).ended ≡ halted j number details s' → Halts n k b j number details s'
    unfolding pixels_from
    stops zero k b long ready ends = absurd (let z : ◌≡◌ {A = ℕ} 0 1 = cc in omega arith)
    stops (suc n) k b long ready ends =
        let here = ready (omega arith) in
        let ok = here.passes in
        by_walk n k b ok _ refl ends
        (λ r later.
        stops n (k + 1) (on c k b ok r) (λ i below. long i (omega arith))
        (λ more.
        let within : column b.session + 1 < width b.session = omega (arith, here.left) in
        record {
          left = omega (arith, here.left, column_on c k b ok r within);
          passes = passes_on c k b ok r (long (k + 1) (omega arith)) within;
        })
        later)

-- ---- the theorem

module _ (s : Session) (residuals references records plane : List ℤ) (contexts : List ℕ) (cells : List ℤ) (m : List ℕ) (words : AreWords plane) where
  abbrev pub given : Given
  given = record { residuals = residuals; references = references; records = records; each = length references / width s }

  abbrev pub first : Left
  first = record { session = s; plane = plane; contexts = contexts; cells = cells; memory = m }

  abbrev pub it : Row
  it = unpacks s residuals references records plane contexts cells m

  abbrev may : Outcome Unit
  may = may_unpack s (length plane) (length residuals) (length contexts) (length references)

  abbrev by : Outcome Unit → Row
  by o = unpacks_by o (pixels given (width s) 0 first) s plane contexts cells m

  -- as it was, but for what is said
  abbrev pub unchanged : ℕ → List ℤ → Row
  unchanged number details = row_of (halted 0 number details s) plane contexts cells m

  -- the first ask's arguments are refused
  first_refused : (n number : ℕ) (details : List ℤ) → 0 < n → length (share given 0) ≡ given.each → tests given first ≡ refuses number details
      → pixels given n 0 first ≡ unchanged number details
  unfolding pixels_from asks
  first_refused zero number details some long is = absurd (omega arith)
  first_refused (suc n) number details some long is = rw (long, is)

  -- nothing was done, or pixel k's walk was refused
  abbrev pub HaltedOrUnchanged : ℕ → ℕ → List ℤ → Session → Type 0
  HaltedOrUnchanged k number details s' =
      ((k ≡ 0) × (it ≡ unchanged number details))
      ⊎ ((k < width s) × Stopped given (pixels given k 0 first) it k number details s')

  module _ (k number : ℕ) (details : List ℤ) (s' : Session) (ends : it.ended ≡ halted k number details s') where
    nothing_done : (number' : ℕ) (details' : List ℤ) → it ≡ unchanged number' details' → HaltedOrUnchanged k number details s'
    nothing_done number' details' is =
        let same : halted 0 number' details' s ≡ halted k number details s' = sym (ap (λ (r : Row). r.ended) is) ∙ ends in
        let at : k ≡ 0 = cc in
        let number_is : number ≡ number' = cc in
        let details_are : details ≡ details' = cc in
        inl (at, rw (number_is, details_are) is)

    module _ (passed : may ≡ gives tt) where
      granted : RowGranted s (length plane) (length residuals) (length contexts) (length references)
      granted = row_granted s (length plane) (length residuals) (length contexts) (length references) passed

      pixels_are : it ≡ pixels given (width s) 0 first
      unfolding unpacks
      pixels_are = ap by passed

      long : (i : ℕ) → i < width s → length (share given i) ≡ given.each
      long i below =
          let fits : suc i * given.each ≤ width s * given.each = mul-le-mul_right given.each below in
          length-take-le given.each (drop (i * given.each) references) (omega (arith, length-drop (i * given.each) references, granted.packed))

      by_tests : (o : Outcome Unit) → tests given first ≡ o → HaltedOrUnchanged k number details s'
      by_tests (refuses number' details') is =
          nothing_done number' details' (pixels_are ∙ first_refused (width s) number' details' granted.placed.some (long 0 granted.placed.some) is)
      by_tests (gives done) is =
          let halts =
          stops given k number details s' (width s) 0 first (λ i below. long i (omega arith))
          (λ more. record { left = omega (arith, granted.at_start_lem); passes = record { long = long 0 more; words = words; may = is } })
          (rw pixels_are at ends)
          in
          let all_of : halts.many ≡ k = omega (arith, halts.at) in
          inr (omega (arith, halts.below), rw pixels_are (rw all_of at halts.stopped))

    by_may : (o : Outcome Unit) → may ≡ o → HaltedOrUnchanged k number details s'
    unfolding unpacks
    by_may (refuses number' details') is = nothing_done number' details' (ap by is)
    by_may (gives done) is = by_tests is _ refl

    pub halted_or_unchanged : HaltedOrUnchanged k number details s'
    halted_or_unchanged = by_may _ refl
