-- One pixel of a row: the row goes on from what ask and put leave, or ends at the refusal of either.
use lib.IntN.{ℤ, pos}
use lib.ListN.{get_or, set}
use mathlib.Core.List.{List}
use mathlib.Core.Path.{◌≡◌, sym}
use native.Mathlib.Omega.{arith}
use Prim.Native.Nat.{ℕ, suc, ◌+◌, ◌-◌, ◌<◌}
use Rattle.refusal.specs.Paper.{gives, refuses}
use Rattle.session.specs.Session.{Asking, Putting, asks, puts}
use Rattle.session.specs.declared.Session.{Session}
use Rattle.row.specs.Row.{Row, row_of, halted, part_of, pixels_from}

module _
    (residuals references records : List ℤ) (each : ℕ) (s : Session) (plane : List ℤ) (contexts : List ℕ) (cells : List ℤ) (m : List ℕ)
    (n k : ℕ) (below : k < n) (own : List ℤ) (own_is : own ≡ part_of residuals references records each k)
  where
    abbrev here : Row
    here = pixels_from residuals references records each (n - k) k s plane contexts cells m

    left : n - k ≡ suc (n - (k + 1))
    left = omega arith

    abbrev a : Asking
    a = asks s plane own records cells m

    module _ {asked : Session} {cells' : List ℤ} (session_is : asked ≡ a.session) (cells_are : cells' ≡ a.cells) where
      pub ask_ends : {number : ℕ} {details : List ℤ} → refuses number details ≡ a.says → here ≡ row_of (halted k number details asked) plane contexts cells' m
      unfolding pixels_from
      ask_ends says = rw (left, sym own_is, sym says, sym session_is, sym cells_are)

      module _ {context : ℕ} (told : gives context ≡ a.says) (v : ℤ) (v_is : v ≡ get_or residuals k (pos 0)) where
        abbrev p : Putting
        p = puts asked v plane m

        module _ {next : Session} {plane' : List ℤ} {m' : List ℕ} (next_is : next ≡ p.session) (plane_is : plane' ≡ p.plane) (memory_is : m' ≡ p.memory) where
          pub put_ends : {number : ℕ} {details : List ℤ} → refuses number details ≡ p.says
              → here ≡ row_of (halted k number details next) plane' (set contexts k context) cells' m'
          unfolding pixels_from
          put_ends says =
              rw (left, sym own_is, sym told, sym session_is, sym cells_are, sym v_is, sym says, sym next_is, sym plane_is, sym memory_is)

          pub goes_on : gives tt ≡ p.says
              → here ≡ pixels_from residuals references records each (n - (k + 1)) (k + 1) next plane' (set contexts k context) cells' m'
          unfolding pixels_from
          goes_on says =
              rw (left, sym own_is, sym told, sym session_is, sym cells_are, sym v_is, sym says, sym next_is, sym plane_is, sym memory_is)
