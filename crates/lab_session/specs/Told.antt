-- What the C functions of a session answer and write, from the library's own definitions. A session is told as four lists: its header, its
-- place and what was found as those of a weighted state, the guess after the latter, and four settings. A list that is too short is 8,
-- before all else, and nothing is written.
use Rattle.std.specs.Prelude.{Bool, ◌&&◌, not, List, [], ◌∷◌, ◌≡◌, ℕ, leb, eqb, ℤ, pos, length, get_or, set, drop}
use Rattle.integer.specs.Order.{if}
use Rattle.lab_weighted.specs.Told.{header_of, state_of, placed, after}
use Rattle.refusal.specs.Paper.{Outcome, gives, refuses, one_value}
use Rattle.row.specs.Row.{Answer, answer_of, complete, stopped, Row, unpacks}
use Rattle.row.specs.Row as rows
use Rattle.session.specs.Session.{Asking, Opening, Putting, asks, opens, puts}
use Rattle.session.specs.declared.Session.{Session}
use Rattle.told.specs.Told.{Tells, begun, done_or, nothing, telling}
use Rattle.weighted.specs.State.{test}

-- ---- a session as lists

unfoldable pub session_of : List ℕ → List ℕ → List ℤ → List ℕ → Session
session_of header place found settings = record {
  weighted = state_of header place found;
  weights = not (eqb (get_or settings 0 0) 0);
  mask = get_or settings 1 0;
  live = not (eqb (get_or settings 2 0) 0);
  guess = get_or found 5 (pos 0);
  multiplier = get_or settings 3 0;
}

-- what was found, and the guess
abbrev pub found_put : Session → List ℤ → List ℤ
found_put s words =
    let f = s.weighted.found in
    f.p0 ∷ f.p1 ∷ f.p2 ∷ f.p3 ∷ f.pred ∷ s.guess ∷ drop 6 words

abbrev pub settled : Session → List ℕ → List ℕ
settled s words = if s.weights 1 0 ∷ s.mask ∷ if s.live 1 0 ∷ s.multiplier ∷ drop 4 words

-- lists of these lengths tell a session, with room for what is told of an answer
abbrev pub tell_session : ℕ → ℕ → ℕ → ℕ → ℕ → Bool
tell_session header place found settings told = leb 11 header && leb 4 place && leb 6 found && leb 4 settings && leb 5 told

-- the lists afterwards: of the session that is given, else as they were
pub record Written (o : Outcome Session) (place : List ℕ) (found : List ℤ) (settings : List ℕ) (place' : List ℕ) (found' : List ℤ) (settings' : List ℕ) : Type 0 where
  pub holds_place : place' ≡ after (λ s. placed s.weighted) o place
  pub holds_found : found' ≡ after found_put o found
  pub holds_settings : settings' ≡ after settled o settings

-- a context is told as one word, a session as none
abbrev pub context_words : ℕ → List ℤ
context_words context = pos context ∷ []

abbrev pub no_words : Session → List ℤ
no_words s = []

-- ---- the end of a row

abbrev pub end_says : Answer → Outcome Unit
end_says complete = gives tt
end_says (stopped pixels number details) = refuses number details

-- past the five words that a refusal may have, how many pixels were put before it
abbrev pub count_put : Answer → List ℤ → List ℤ
count_put complete words = words
count_put (stopped pixels number details) words = set words 5 (pos pixels)

pub record EndTold (long : Bool) (a : Answer) (words : List ℤ) (r : ℕ) (words' : List ℤ) : Type 0 where
  pub answers : r ≡ if long (done_or (end_says a)) 8
  pub holds : words' ≡ if long (count_put a (begun (telling nothing (end_says a)) words)) words

module _ (header place : List ℕ) (found : List ℤ) (settings : List ℕ) where
  abbrev pub long : List ℤ → Bool
  long told = tell_session (length header) (length place) (length found) (length settings) (length told)

  -- ---- opening: a refusal leaves the lists

  module _ (width : ℕ) (weights : Bool) (mask : ℕ) (channel stream : ℤ) (cells : List ℤ) (m : List ℕ) where
    abbrev pub opened : Opening
    opened = opens width (header_of header) weights mask channel stream cells m

    pub record OpenTold (told : List ℤ) (r : ℕ) (place' : List ℕ) (found' : List ℤ) (settings' : List ℕ) (cells' : List ℤ) (m' : List ℕ) (told' : List ℤ) : Type 0 where
      pub tells : Tells no_words (long told) opened.says told r told'
      pub writes : Written (test (long told) 8 0 opened.says) place found settings place' found' settings'
      pub holds_cells : cells' ≡ if (long told) opened.cells cells
      pub holds_memory : m' ≡ if (long told) opened.memory m

  -- ---- ask and put: the lists are those of the session afterwards, refused or not

  module _ (plane references records cells : List ℤ) (m : List ℕ) where
    abbrev pub asked : Asking
    asked = asks (session_of header place found settings) plane references records cells m

    pub record AskTold (told : List ℤ) (r : ℕ) (place' : List ℕ) (found' : List ℤ) (settings' : List ℕ) (cells' told' : List ℤ) : Type 0 where
      pub tells : Tells context_words (long told) asked.says told r told'
      pub writes : Written (test (long told) 8 0 (gives asked.session)) place found settings place' found' settings'
      pub holds_cells : cells' ≡ if (long told) asked.cells cells

  module _ (residual : ℤ) (plane : List ℤ) (m : List ℕ) where
    abbrev pub put : Putting
    put = puts (session_of header place found settings) residual plane m

    pub record PutTold (told : List ℤ) (r : ℕ) (place' : List ℕ) (found' : List ℤ) (settings' : List ℕ) (plane' : List ℤ) (m' : List ℕ) (told' : List ℤ) : Type 0 where
      pub tells : Tells nothing (long told) put.says told r told'
      pub writes : Written (test (long told) 8 0 (gives put.session)) place found settings place' found' settings'
      pub holds_plane : plane' ≡ if (long told) put.plane plane
      pub holds_memory : m' ≡ if (long told) put.memory m

  -- ---- a row: as put, and room for the count

  module _ (residuals references records plane : List ℤ) (contexts : List ℕ) (cells : List ℤ) (m : List ℕ) where
    abbrev pub row : Row
    row = unpacks (session_of header place found settings) residuals references records plane contexts cells m

    abbrev pub longer : List ℤ → Bool
    longer told = leb 6 (length told) && long told

    pub record RowTold (told : List ℤ) (r : ℕ) (place' : List ℕ) (found' : List ℤ) (settings' : List ℕ) (plane' : List ℤ) (contexts' : List ℕ) (cells' : List ℤ) (m' : List ℕ) (told' : List ℤ) : Type 0 where
      pub tells : EndTold (longer told) (answer_of row.ended) told r told'
      pub writes : Written (test (longer told) 8 0 (gives (rows.session_of row.ended))) place found settings place' found' settings'
      pub holds_plane : plane' ≡ if (longer told) row.plane plane
      pub holds_contexts : contexts' ≡ if (longer told) row.contexts contexts
      pub holds_cells : cells' ≡ if (longer told) row.cells cells
      pub holds_memory : m' ≡ if (longer told) row.memory m

-- ---- determinacy

pub end_determined : {long : Bool} {e : Answer} {words : List ℤ} {r s : ℕ} {a b : List ℤ} → EndTold long e words r a → EndTold long e words s b → (r ≡ s) × (a ≡ b)
end_determined p q = (one_value p.answers q.answers, one_value p.holds q.holds)

pub written_determined : {o : Outcome Session} {place : List ℕ} {found : List ℤ} {settings place' place'' : List ℕ} {found' found'' : List ℤ} {settings' settings'' : List ℕ}
    → Written o place found settings place' found' settings' → Written o place found settings place'' found'' settings''
    → (place' ≡ place'') × (found' ≡ found'') × (settings' ≡ settings'')
written_determined p q = (
  one_value p.holds_place q.holds_place,
  one_value p.holds_found q.holds_found,
  one_value p.holds_settings q.holds_settings,
)
