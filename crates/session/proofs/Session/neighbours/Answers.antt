-- `neighbours` meets its contract: the rows are parts of the plane.
use borrow.Author.Tests.{ltb-true, ltb-false}
use lib.Dec.{ltb}
use lib.ListN.{length, take, drop}
use mathlib.Core.Bool.{Bool, true, false}
use mathlib.Core.List.{List}
use mathlib.Core.Path.{◌≡◌, refl, sym, ap, ◌∙◌}
use lib.IntN.{ℤ}
use native.Mathlib.Omega.{arith}
use Rattle.colour.specs.Rows.{is_row}
use Prim.Native.Nat.{ℕ, ◌+◌, ◌-◌, ◌*◌}
use Rattle.session.proofs.Granted.{Pixel, pixel, own_words, row_words}
use Rattle.session.proofs.Session.neighbours.Goals as goal

both : (a b w : ℕ) → a * w + b * w ≡ (a + b) * w
both a b w = omega arith

-- where the row k up begins, where there is none the first
up : (y k w : ℕ) → y * w - k * w ≡ (y - k) * w
up y k w = by (ltb y k) refl
  where
    by : (t : Bool) → ltb y k ≡ t → y * w - k * w ≡ (y - k) * w
    by true less =
        let none : y - k ≡ 0 = omega (arith, ltb-true y k less) in
        let whole : (k - y) + y ≡ k = omega (arith, ltb-true y k less) in
        rw none (omega (arith, both (k - y) y w, ap (λ (n : ℕ). n * w) whole))
    by false least =
        let whole : (y - k) + k ≡ y = omega (arith, ltb-false y k least) in
        omega (arith, both (y - k) k w, ap (λ (n : ℕ). n * w) whole)

pub returns : goal.returns
returns c =
    let plane : List ℤ = c.args.plane.now in
    let y : ℕ = c.args.self.now.weighted.y in
    let w : ℕ = c.args.self.now.weighted.width in
    let inside : Pixel c.args.self.now (length c.args.plane.now) = pixel c.args.self.now (length c.args.plane.now) c.requires in
    let there : is_row (length plane) w y ≡ true = inside.there in
    let one_up : c.saturating_sub-one_up.result ≡ (y - 1) * w = omega (arith, c.saturating_sub-one_up.ensures, up y 1 w) in
    let two_up : c.saturating_sub-two_up.result ≡ (y - 2) * w = omega (arith, c.saturating_sub-two_up.ensures, c.saturating_sub-one_up.ensures, up y 2 w) in
    let from : ℕ → List ℤ = λ (n : ℕ). take w (drop n plane) in
    let row = c.row_from.ensures ∙ sym (own_words plane w y there) in
    let one = c.row_from-2.ensures ∙ ap from one_up ∙ sym (row_words plane w y 1 there) in
    let two = c.row_from-3.ensures ∙ ap from two_up ∙ sym (row_words plane w y 2 there) in
    c.get_rows.ensures ∙ rw (row, one, two)
