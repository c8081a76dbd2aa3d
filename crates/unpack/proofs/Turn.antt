-- One pixel, from what ask and put promise: what both leave is `one_pixel`, and a put that is refused leaves the plane.
use lib.IntN.{ℤ, pos}
use lib.ListN.{length, get_or}
use mathlib.Core.List.{List, []}
use mathlib.Core.Path.{◌≡◌, refl, sym, ap, ◌∙◌}
use native.Mathlib.Numerals.{add-one}
use Prim.Native.Nat.{ℕ, ◌+◌}
use Rattle.refusal.proofs.Outcomes.{no_refusal}
use Rattle.refusal.specs.Paper.{Outcome, gives, refuses, said}
use Rattle.refusal.specs.declared.Refusal.{Refusal}
use Rattle.session.specs.Session.{asks, puts, may_put, put_by, Putting}
use Rattle.session.specs.declared.Session.{Session}
use Rattle.std.proofs.Common.{Result, Ok, Err}
use Rattle.unpack.specs.Steps.{Before, one_pixel, steps, IfRefused}

-- where a put says a refusal, its plane is the old one
kept : (o : Outcome Unit) (next : Putting) (s : Session) (plane : List ℤ) (m : List ℕ) (number : ℕ) (details : List ℤ)
    → next.says ≡ gives tt → refuses number details ≡ (put_by o next s plane m).says → (put_by o next s plane m).plane ≡ plane
kept (gives done) next s plane m number details given e = absurd (no_refusal (e ∙ given))
kept (refuses n ds) next s plane m number details given e = refl

refused_keeps : (s : Session) (v : ℤ) (plane : List ℤ) (m : List ℕ) (number : ℕ) (details : List ℤ) → refuses number details ≡ (puts s v plane m).says
    → (puts s v plane m).plane ≡ plane
unfolding puts
refused_keeps s v plane m number details e = kept (may_put s (length plane) (length m)) _ s plane m number details refl e

-- what ask and put leave of a pixel
pub goes : (records : List ℤ) (k : ℕ) (b : Before) {s' s'' : Session} {v : ℤ} {plane' cells' : List ℤ} {m' : List ℕ}
    → s' ≡ (asks b.session b.plane [] records b.cells b.memory).session → cells' ≡ (asks b.session b.plane [] records b.cells b.memory).cells
    → v ≡ get_or b.plane k (pos 0)
    → s'' ≡ (puts s' v b.plane b.memory).session → plane' ≡ (puts s' v b.plane b.memory).plane → m' ≡ (puts s' v b.plane b.memory).memory
    → record { session = s''; plane = plane'; cells = cells'; memory = m' } ≡ one_pixel records k b
goes records k b asked cells_are is put_is plane_is memory_is = rw (put_is, plane_is, memory_is, cells_are, asked, is)

-- a put that is refused
pub stays : (r : Result Unit Refusal) (s : Session) (v : ℤ) (plane : List ℤ) (m : List ℕ) {plane' : List ℤ}
    → said r ≡ (puts s v plane m).says → plane' ≡ (puts s v plane m).plane → IfRefused r (plane' ≡ plane)
stays (Ok done) s v plane m says is = tt
stays (Err refusal) s v plane m says is = is ∙ refused_keeps s v plane m _ _ says

-- one step more
pub next_step : (records : List ℤ) (k : ℕ) (first : Before) {b next : Before} → b ≡ steps records first k → next ≡ one_pixel records k b → next ≡ steps records first (k + 1)
unfolding steps
next_step records k first at is = rw add-one (is ∙ ap (one_pixel records k) at)
