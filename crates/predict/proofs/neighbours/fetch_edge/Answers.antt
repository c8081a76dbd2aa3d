-- `fetch_edge` meets its contract: each call's result is read back (h) and is what the definition says (e).
use mir.Syntax.{w32}
use Rattle.integer.proofs.Bounded.{held}
use Rattle.predict.specs.Neighbours.{fetched}
use Rattle.predict.proofs.neighbours.fetch_edge.Goals as goal

pub returns : goal.returns
unfolding fetched
returns c =
    let h1 = held w32 c.cell_or.result c.cell_or.type_inv in
    let h2 = held w32 c.cell_before-left.result c.cell_before-left.type_inv in
    let h3 = held w32 c.cell_or-top.result c.cell_or-top.type_inv in
    let h4 = held w32 c.cell_before-topleft.result c.cell_before-topleft.type_inv in
    let h5 = held w32 c.cell_or-topright.result c.cell_or-topright.type_inv in
    let h6 = held w32 c.cell_before-leftleft.result c.cell_before-leftleft.type_inv in
    let h7 = held w32 c.cell_or-toptop.result c.cell_or-toptop.type_inv in
    let h8 = held w32 c.cell_or-toprightright.result c.cell_or-toprightright.type_inv in
    let e1 = c.cell_or.ensures in
    let e2 = simp h1 at c.cell_before-left.ensures in
    let e3 = simp h2 at c.cell_or-top.ensures in
    let e4 = simp h2 at c.cell_before-topleft.ensures in
    let e5 = simp h3 at c.cell_or-topright.ensures in
    let e6 = simp h2 at c.cell_before-leftleft.ensures in
    let e7 = simp h3 at c.cell_or-toptop.ensures in
    let e8 = simp h5 at c.cell_or-toprightright.ensures in
    simp (h2, h3, h4, h5, h6, h7, h8) (simp (e1, e2, e3, e4, e5, e6, e7, e8))
