-- Where the channel stands and pixel k's walk gives an answer, the ask says its context and the put after it is not refused; where the walk
-- is refused, so is the ask, which closes the session.
use lib.IntN.{ℤ}
use lib.ListN.{length}
use mathlib.Core.Bool.{true}
use mathlib.Core.List.{List}
use mathlib.Core.Path.{◌≡◌, sym, ap, ◌∙◌}
use Prim.Native.Nat.{ℕ, ◌≤◌, ◌<◌}
use native.Mathlib.Omega.{arith}
use Rattle.blend.specs.declared.Found.{Found}
use Rattle.refusal.proofs.Outcomes.{no_refusal}
use Rattle.refusal.specs.Paper.{Outcome, gives, refuses}
use Rattle.session.specs.Session.{Asking, asks, Putting, puts, walked}
use Rattle.walk.specs.declared.PredictionResult.{PredictionResult}
use Rattle.weighted.specs.State.{answered}
use Rattle.channel.specs.Calls.{Before, one_pixel, calls, Sound}
use Rattle.channel.specs.Channel.{Told, Scan, seven, predicted, cells_of, scan}
use Rattle.channel.proofs.Follows.{before, Meets, standing, refused, meets}
use Rattle.channel.proofs.Turns.{at, Kept, ask_walks, put_done, put_closed}

-- what the ask and the put of pixel k say, from where the calls have come to
module _ (t : Told) (records : List ℤ) (b : Before) (k : ℕ) where
  abbrev pub asking : Asking
  asking = asks b.session b.plane (t.references k) records b.cells b.memory

  pub record Said (r : PredictionResult) : Type 0 where
    pub asked : asking.says ≡ gives r.context
    pub put : (puts asking.session (t.residual k) b.plane b.memory).says ≡ gives tt

  -- the ask is refused and has closed the session, and the put after it changes nothing
  pub record Shut (number : ℕ) (details : List ℤ) : Type 0 where
    pub asked : asking.says ≡ refuses number details
    pub session_is : (one_pixel b (t.references k) records (t.residual k)).session ≡ asking.session
    pub plane_is : (one_pixel b (t.references k) records (t.residual k)).plane ≡ b.plane
    pub memory_is : (one_pixel b (t.references k) records (t.residual k)).memory ≡ b.memory

module _ (t : Told) (records plane cells : List ℤ) (memory : List ℕ) (rows : ℕ) (sound : Sound t records plane cells memory rows) where
  -- the session of a channel that stands: at its place, and the channel has kept what it needs
  pub record Stands (k : ℕ) (s : Scan) (b : Before) : Type 0 where
    pub f : Found
    pub g : ℤ
    pub n : ℕ
    pub kept : Kept t records plane cells memory rows sound k s
    pub is : b ≡ before t records plane cells memory rows sound k true s f g n

  pub stands_at : (k : ℕ) → k ≤ length plane → (scan t plane cells memory k).stands ≡ gives tt
      → Stands k (scan t plane cells memory k) (calls t records plane cells memory k)
  stands_at k early stands = by (meets t records plane cells memory rows sound k early)
    where
      by : Meets t records plane cells memory rows sound k (scan t plane cells memory k) (calls t records plane cells memory k)
          → Stands k (scan t plane cells memory k) (calls t records plane cells memory k)
      by (standing f g n it kept is) = record { f = f; g = g; n = n; kept = kept; is = is }
      by (refused number details j f g n it in_plane long is) = absurd (no_refusal (sym it ∙ stands))

  module _ (k : ℕ) (inside : k < length plane) (r : PredictionResult) where
    abbrev pub walk : Scan → Outcome PredictionResult
    walk s = t.walk (cells_of t s k) (seven t s k) (predicted t s k).guess

    said : (s : Scan) (b : Before) → Stands k s b → walk s ≡ gives r → Said t records b k r
    said s b stands is =
        let f = stands.f in
        let g = stands.g in
        let n = stands.n in
        let here = at t k true f g n in
        let ask =
        ask_walks t records plane cells memory rows sound k inside s stands.kept f g n
        ∙ ap (λ (o : Outcome PredictionResult). walked here (answered here.weighted (predicted t s k)) (cells_of t s k) o) is
        in
        let put = put_done t records plane cells memory rows sound k inside s stands.kept f g n r in
        rw stands.is (record { asked = ap (λ (a : Asking). a.says) ask; put = rw ask (ap (λ (p : Putting). p.says) put) })

    pub ask_said : (scan t plane cells memory k).stands ≡ gives tt → walk (scan t plane cells memory k) ≡ gives r
        → Said t records (calls t records plane cells memory k) k r
    ask_said stands is =
        said (scan t plane cells memory k) (calls t records plane cells memory k) (stands_at k (omega arith) stands) is

  module _ (k : ℕ) (inside : k < length plane) (number : ℕ) (details : List ℤ) where
    shut : (s : Scan) (b : Before) → Stands k s b → t.walk (cells_of t s k) (seven t s k) (predicted t s k).guess ≡ refuses number details
        → Shut t records b k number details
    shut s b stands is =
        let f = stands.f in
        let g = stands.g in
        let n = stands.n in
        let here = at t k true f g n in
        let ask =
        ask_walks t records plane cells memory rows sound k inside s stands.kept f g n
        ∙ ap (λ (o : Outcome PredictionResult). walked here (answered here.weighted (predicted t s k)) (cells_of t s k) o) is
        in
        let put = put_closed t records plane cells memory rows sound k inside f g n s (t.residual k) stands.kept.long in
        rw stands.is (record { asked = ap (λ (a : Asking). a.says) ask; session_is = rw (ask, put); plane_is = rw (ask, put); memory_is = rw (ask, put) })

    pub ask_shuts : (scan t plane cells memory k).stands ≡ gives tt
        → t.walk (cells_of t (scan t plane cells memory k) k) (seven t (scan t plane cells memory k) k) (predicted t (scan t plane cells memory k) k).guess
        ≡ refuses number details → Shut t records (calls t records plane cells memory k) k number details
    ask_shuts stands is =
        shut (scan t plane cells memory k) (calls t records plane cells memory k) (stands_at k (omega arith) stands) is
