-- `matuviso_weigh_plane` meets its promise: past all tests the loop weighs the plane.
use borrow.Author.Tests.{le-leb}
use lib.Dec.{leb}
use lib.ListN.{length}
use mathlib.Core.Bool.{true}
use mathlib.Core.Path.{◌≡◌, refl, sym, ◌∙◌}
use native.Mathlib.Omega.{arith}
use Prim.Native.Nat.{◌*◌, ◌^◌}
use Rattle.lab_weighted.specs.Told.{header_of}
use Rattle.refusal.specs.Paper.{gives}
use Rattle.weighted.specs.State.{opens, cleared}
use Rattle.bench_weighted.specs.Weighed.{weighs}
use Rattle.bench_weighted.proofs.Opening.{gave, fresh_left, weighs_on}
use Rattle.bench_weighted.proofs.matuviso_weigh_plane.Goals as goal

pub weigh_all-requires-clause-fresh : goal.weigh_all-requires-clause-fresh
weigh_all-requires-clause-fresh c =
    let a = c.args in
    let opened : opens (header_of a.header.now) a.width a.memory.now ≡ gives c.in-Ok.state = gave (rw c.header_of.ensures at c.open.ensures.answers) c.in-Ok.is in
    let left : c.open.new.memory ≡ cleared a.memory.now (opens (header_of a.header.now) a.width a.memory.now) = rw c.header_of.ensures at c.open.ensures.holds in
    fresh_left (header_of a.header.now) a.width a.memory.now c.in-Ok.state opened left

pub returns-in-Ok-weigh_all : goal.returns-in-Ok-weigh_all
returns-in-Ok-weigh_all c =
    let a = c.args in
    let opened : opens (header_of a.header.now) a.width a.memory.now ≡ gives c.in-Ok.state = gave (rw c.header_of.ensures at c.open.ensures.answers) c.in-Ok.is in
    let left : c.open.new.memory ≡ cleared a.memory.now (opens (header_of a.header.now) a.width a.memory.now) = rw c.header_of.ensures at c.open.ensures.holds in
    let header_there : leb 11 (length a.header.now) ≡ true = le-leb _ _ c.if-header-lt11.false in
    let data_there : leb (7 * length a.plane.now) (length a.«data».now) ≡ true = le-leb _ _ (omega (arith, c.if-data-plane.false)) in
    let room_there : leb (2 * length a.plane.now) (length a.answers.now) ≡ true = le-leb _ _ (omega (arith, c.if-answers-plane.false)) in
    let few_rows : leb (length a.plane.now) (a.width * 2 ^ 30) ≡ true = sym c.rows_fit.ensures ∙ c.if-not-rows_fit.false in
    let is : weighs a.header.now a.width a.«data».now a.plane.now a.memory.now a.answers.now ≡ gives c.in-Ok.state = simp (header_there, data_there, room_there, few_rows) opened in
    let on = weighs_on (header_of a.header.now) a.width a.memory.now c.in-Ok.state opened left a.«data».now a.plane.now a.answers.now c.weigh_all.ensures.holds_memory c.weigh_all.ensures.holds_answers in
    record { answers = rw is refl; holds_memory = rw is on.0; holds_answers = rw is on.1 }
