-- Opening, and one pixel of a channel: the channel goes on from what opening, or ask and put leave, or ends at the refusal of either.
use lib.IntN.{ℤ, pos}
use lib.ListN.{length, get_or, set, drop}
use lib.Seq.{drop-cons}
use mathlib.Core.Bool.{Bool}
use mathlib.Core.List.{List, ◌∷◌}
use mathlib.Core.Path.{◌≡◌, sym}
use Prim.Native.Nat.{ℕ, ◌+◌, ◌<◌}
use Rattle.blend.specs.declared.WeightedHeader.{WeightedHeader}
use Rattle.refusal.specs.Paper.{gives, number_of, paper}
use Rattle.refusal.specs.declared.Refusal.{Refusal}
use Rattle.session.specs.Session.{Asking, Opening, Putting, asks, opens, puts}
use Rattle.session.specs.declared.Session.{Session}
use Rattle.std.proofs.Common.{add-one}
use Rattle.bench_session.specs.Run.{End, ended, opened, run, run_from}

module _ (references records residuals : List ℤ) (width : ℕ) (h : WeightedHeader) (weights : Bool) (mask : ℕ) (number stream : ℤ) (plane : List ℤ) (contexts : List ℕ) (cells : List ℤ) (m : List ℕ) where
  abbrev opening : Opening
  opening = opens width h weights mask number stream cells m

  pub leads_on : {s : Session} {cells' : List ℤ} {m' : List ℕ} → gives s ≡ opening.says → cells' ≡ opening.cells → m' ≡ opening.memory
      → opened references records residuals width h weights mask number stream plane contexts cells m ≡ run references records residuals s plane contexts cells' m'
  leads_on says cells_are memory_is = rw (sym says, cells_are, memory_is)

-- what is left begins with the next residual
pub next_one : (residuals : List ℤ) (k : ℕ) → k < length residuals → drop k residuals ≡ get_or residuals k (pos 0) ∷ drop (k + 1) residuals
next_one residuals k below = rw add-one (drop-cons residuals k (pos 0) below)

module _ (references records : List ℤ) (k : ℕ) (s : Session) (plane : List ℤ) (contexts : List ℕ) (cells : List ℤ) (m : List ℕ) (residual : ℤ) (rest : List ℤ) where
  abbrev here : End
  here = run_from references records k s plane contexts cells m (residual ∷ rest)

  abbrev asking : Asking
  asking = asks s plane references records cells m

  pub ask_ends : (e : Refusal) {cells' : List ℤ} → paper e ≡ asking.says → cells' ≡ asking.cells → here ≡ ended (number_of e) plane contexts cells' m
  unfolding run_from
  ask_ends e says cells_are = rw (sym says, cells_are)

  module _ {context : ℕ} {next : Session} {cells' : List ℤ} (says : gives context ≡ asking.says) (session_is : next ≡ asking.session) (cells_are : cells' ≡ asking.cells) where
    abbrev putting : Putting
    putting = puts next residual plane m

    pub put_ends : (e : Refusal) {plane' : List ℤ} {m' : List ℕ} → paper e ≡ putting.says → plane' ≡ putting.plane → m' ≡ putting.memory
        → here ≡ ended (number_of e) plane' (set contexts k context) cells' m'
    unfolding run_from
    put_ends e refused plane_is memory_is = rw (sym says, sym session_is, sym cells_are, sym refused, sym plane_is, sym memory_is)

    pub goes_on : {last : Session} {plane' : List ℤ} {m' : List ℕ} → gives tt ≡ putting.says → last ≡ putting.session → plane' ≡ putting.plane → m' ≡ putting.memory
        → here ≡ run_from references records (k + 1) last plane' (set contexts k context) cells' m' rest
    unfolding run_from
    goes_on done last_is plane_is memory_is = rw (sym says, sym session_is, sym cells_are, sym done, sym last_is, sym plane_is, sym memory_is)
