-- Past the tests of a row: its lists are as long as the row, which has pixels, and its first is due.
use borrow.Author.Tests.{eqb-true}
use lib.Dec.{leb, eqb}
use mathlib.Core.Bool.{◌&&◌, not}
use mathlib.Core.Path.{◌≡◌}
use native.Mathlib.Nat.{div-add-mod'}
use native.Mathlib.Omega.{arith}
use Prim.Native.Nat.{ℕ, ◌*◌, ◌/◌, ◌%◌, ◌≤◌}
use Rattle.blend.specs.Blend.{in_range}
use Rattle.cells.specs.Cells.{cells_needed}
use Rattle.integer.proofs.Tests.{and_left, and_right}
use Rattle.refusal.specs.Paper.{gives}
use Rattle.session.proofs.Granted.{Pixel, pixel}
use Rattle.session.specs.Session.{width, column, is_pixel}
use Rattle.session.specs.declared.Session.{Session}
use Rattle.weighted.proofs.Allowed.{test_passed}
use Rattle.row.specs.Row.{fits, is_row_of, is_row_due, may_unpack}

module _ (s : Session) (size residuals contexts references : ℕ) where
  pub record RowGranted : Type 0 where
    pub placed : Pixel s size
    pub residuals_long : residuals ≡ width s
    pub contexts_long : contexts ≡ width s
    pub packed : width s * (references / width s) ≤ references
    pub at_start_lem : column s ≡ 0

  pub row_granted : may_unpack s size residuals contexts references ≡ gives tt → RowGranted
  row_granted e =
      let header = test_passed (in_range s.weighted.header) 12 0 _ e in
      let lists_fit = test_passed (is_row_of s size residuals contexts references) 11 0 _ header.1 in
      let row = lists_fit.0 in
      let due = (test_passed (is_row_due s) 13 0 _ lists_fit.1).0 in
      let sayable = leb (cells_needed s.mask (references / width s)) 4294967295 in
      let two = eqb contexts (width s) && eqb (references % width s) 0 in
      let lists = and_left (fits (width s) residuals contexts references) sayable (and_right (is_pixel s size) (fits (width s) residuals contexts references && sayable) row) in
      record {
        placed = pixel s size (and_left (is_pixel s size) (fits (width s) residuals contexts references && sayable) row);
        residuals_long = eqb-true residuals (width s) (and_left (eqb residuals (width s)) two lists);
        contexts_long = eqb-true contexts (width s) (and_left (eqb contexts (width s)) (eqb (references % width s) 0) (and_right (eqb residuals (width s)) two lists));
        packed = omega (arith, div-add-mod' references (width s));
        at_start_lem = eqb-true (column s) 0 (and_right (not s.weighted.asked) (eqb (column s) 0) (and_right s.live (not s.weighted.asked && eqb (column s) 0) due));
      }
