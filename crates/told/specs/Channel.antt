-- How a whole channel behind one C function ends, pixel by pixel or row by row: 0 or the number of the first refusal, and what is lent.
use Rattle.std.specs.Prelude.{List, ◌≡◌, ℕ, ℤ}
use Rattle.refusal.specs.Paper.{Outcome, gives, refuses, one_value}

pub record End : Type 0 where
  pub status : ℕ
  pub plane : List ℤ
  pub contexts : List ℕ
  pub cells : List ℤ
  pub memory : List ℕ

abbrev pub ended : ℕ → List ℤ → List ℕ → List ℤ → List ℕ → End
ended number plane contexts cells m = record { status = number; plane = plane; contexts = contexts; cells = cells; memory = m }

-- the first refusal ends it
abbrev pub stepped : {A : Type 0} → Outcome A → (ℕ → End) → (A → End) → End
stepped (gives a) ends goes_on = goes_on a
stepped (refuses number details) ends goes_on = ends number

pub record Ends (end : End) (r : ℕ) (plane : List ℤ) (contexts : List ℕ) (cells : List ℤ) (m : List ℕ) : Type 0 where
  pub is : ended r plane contexts cells m ≡ end

pub ends_determined : {end : End} {r s : ℕ} {plane plane' : List ℤ} {contexts contexts' : List ℕ} {cells cells' : List ℤ} {m m' : List ℕ}
    → Ends end r plane contexts cells m → Ends end s plane' contexts' cells' m'
    → ended r plane contexts cells m ≡ ended s plane' contexts' cells' m'
ends_determined p q = one_value p.is q.is
