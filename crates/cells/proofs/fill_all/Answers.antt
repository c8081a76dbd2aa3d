-- `fill_all` meets its contract: a mask of 0 uses no group, and any other is filled group after group.
use lib.ListN.{length}
use mathlib.Core.Path.{◌≡◌, ap, ◌∙◌}
use mir.Facts.{to_z-of_z}
use native.Mathlib.Omega.{arith}
use Prim.Native.Nat.{ℕ, ◌≤◌}
use Rattle.predict.specs.declared.neighbours.PredictionData.{PredictionData}
use Rattle.cells.specs.Cells.{neighboured, graded, contexted, weighed, referred}
use Rattle.cells.proofs.fill_all.Goals as goal

pub returns-then-unused : goal.returns-then-unused
returns-then-unused c =
    let none : c.args.mask ≡ 0 = omega arith in
    simp none

pub fill_references-requires : goal.fill_references-requires
fill_references-requires c =
    let as_long : length c.fill_weighted.new.cells ≡ length c.args.cells.now = omega arith in
    let room : 16 ≤ length c.fill_weighted.new.cells = omega arith in
    (room, rw as_long c.requires.3)

pub returns : goal.returns
returns c =
    let mask : ℕ = c.args.mask in
    let d : PredictionData = c.args.«data» in
    let weight = simp (to_z-of_z c.ranges.wp_property) at c.fill_weighted.ensures in
    c.fill_references.ensures
    ∙ ap (referred mask c.args.references.now)
    (weight
    ∙ ap (weighed mask c.args.wp_property)
    (c.fill_context.ensures
    ∙ ap (contexted mask d)
    (c.fill_gradient.ensures
    ∙ ap (graded mask d) (c.fill_neighbours.ensures ∙ ap (neighboured mask d) c.fill_position.ensures))))
