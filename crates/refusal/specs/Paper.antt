-- Document 01's table of refusals: the number of each case and its details. A later number joins by a line in each definition.
use Rattle.std.specs.Prelude.{Bool, true, false, List, [], ◌∷◌, ◌≡◌, refl, ℕ, eqb, ℤ, pos, nat_abs, get_or, Result, Ok, Err}
use Rattle.std.proofs.Common.{ap, sym, ◌∙◌}
use Rattle.refusal.specs.declared.Refusal.{Refusal}
use Rattle.refusal.specs.declared.Refusal.TheVariants.{WordCount, TooMany, NotInForm, OutOfPlace, EmptyList, TooDeep, EmptySide, TooSmall, WideOffset, TooFewCells, WrongSize, HeaderRange, OutOfTurn, NoSuchColour}

abbrev pub number_of : Refusal → ℕ
number_of WordCount = 1
number_of TooMany = 2
number_of (NotInForm place) = 3
number_of (OutOfPlace place) = 4
number_of EmptyList = 5
number_of (TooDeep place) = 6
number_of (EmptySide side) = 7
number_of (TooSmall needed) = 8
number_of (WideOffset place) = 9
number_of (TooFewCells needed) = 10
number_of WrongSize = 11
number_of HeaderRange = 12
number_of OutOfTurn = 13
number_of NoSuchColour = 14

-- where the table says 0, the one detail is 0
abbrev pub details_of : Refusal → List ℤ
details_of WordCount = pos 0 ∷ []
details_of TooMany = pos 0 ∷ []
details_of (NotInForm place) = pos place ∷ []
details_of (OutOfPlace place) = pos place ∷ []
details_of EmptyList = pos 0 ∷ []
details_of (TooDeep place) = pos place ∷ []
details_of (EmptySide side) = pos side.place ∷ pos side.property ∷ side.value ∷ side.low ∷ side.high ∷ []
details_of (TooSmall needed) = pos needed ∷ []
details_of (WideOffset place) = pos place ∷ []
details_of (TooFewCells needed) = pos needed ∷ []
details_of WrongSize = pos 0 ∷ []
details_of HeaderRange = pos 0 ∷ []
details_of OutOfTurn = pos 0 ∷ []
details_of NoSuchColour = pos 0 ∷ []

-- What a call says in the paper's terms: its answer, or a refusal's number and details. Every promise equates two of these.
pub data Outcome (A : Type 0) : Type 0 where
  gives : A → Outcome A
  refuses : ℕ → List ℤ → Outcome A

abbrev pub paper : {A : Type 0} → Refusal → Outcome A
paper r = refuses (number_of r) (details_of r)

-- a result in the paper's terms: what the library's functions answer
abbrev pub said : {A : Type 0} → Result A Refusal → Outcome A
said (Ok a) = gives a
said (Err refusal) = paper refusal

-- ---- number and details tell the cases apart, so a promise in the paper's terms leaves one answer only

abbrev if : Bool → Refusal → Refusal → Refusal
if true a b = a
if false a b = b

-- detail k, and as a count
abbrev the : List ℤ → ℕ → ℤ
the ds k = get_or ds k (pos 0)

abbrev count : List ℤ → ℕ → ℕ
count ds k = nat_abs (the ds k)

-- the case that has this number and these details
abbrev pub read_back : ℕ → List ℤ → Refusal
read_back n ds =
    if (eqb n 1) WordCount
    (if (eqb n 2) TooMany
    (if (eqb n 3) (NotInForm (count ds 0))
    (if (eqb n 4) (OutOfPlace (count ds 0))
    (if (eqb n 5) EmptyList
    (if (eqb n 6) (TooDeep (count ds 0))
    (if (eqb n 7) (EmptySide (record { place = count ds 0; property = count ds 1; value = the ds 2; low = the ds 3; high = the ds 4 }))
    (if (eqb n 8) (TooSmall (count ds 0))
    (if (eqb n 9) (WideOffset (count ds 0))
    (if (eqb n 10) (TooFewCells (count ds 0))
    (if (eqb n 11) WrongSize
    (if (eqb n 12) HeaderRange
    (if (eqb n 13) OutOfTurn NoSuchColour))))))))))))

pub reads_back : (r : Refusal) → read_back (number_of r) (details_of r) ≡ r
reads_back WordCount = refl
reads_back TooMany = refl
reads_back (NotInForm place) = refl
reads_back (OutOfPlace place) = refl
reads_back EmptyList = refl
reads_back (TooDeep place) = refl
reads_back (EmptySide side) = refl
reads_back (TooSmall needed) = refl
reads_back (WideOffset place) = refl
reads_back (TooFewCells needed) = refl
reads_back WrongSize = refl
reads_back HeaderRange = refl
reads_back OutOfTurn = refl
reads_back NoSuchColour = refl

-- Determinacy, once for all promises: two answers that say the same are one answer. Where the answer is a plain value the
-- promise is an equation of values; where it is an enum, `view` gives it in the paper's terms and `back` reads it back.
pub one_value : {A : Type 0} {r s v : A} → r ≡ v → s ≡ v → r ≡ s
one_value p q = p ∙ sym q

pub one_answer : {R A : Type 0} (view : R → Outcome A) (back : Outcome A → R) → ((r : R) → back (view r) ≡ r) → {v : Outcome A} (r s : R) → view r ≡ v → view s ≡ v → r ≡ s
one_answer view back again r s p q = sym (again r) ∙ ap back (one_value p q) ∙ again s

-- the result that says this
abbrev pub unsaid : {A : Type 0} → Outcome A → Result A Refusal
unsaid (gives a) = Ok a
unsaid (refuses n ds) = Err (read_back n ds)

pub said_again : {A : Type 0} (r : Result A Refusal) → unsaid (said r) ≡ r
said_again (Ok a) = refl
said_again (Err refusal) = ap Err (reads_back refusal)

-- of all answers that say the same there is one
pub one_result : {A : Type 0} {v : Outcome A} (r s : Result A Refusal) → said r ≡ v → said s ≡ v → r ≡ s
one_result r s p q = one_answer said unsaid said_again r s p q

-- the promise of `first_detail` leaves one number
pub first_detail_determined : (a : Refusal) (r s : ℕ) → pos r ≡ get_or (details_of a) 0 (pos 0) → pos s ≡ get_or (details_of a) 0 (pos 0) → r ≡ s
first_detail_determined a r s p q = ap nat_abs (one_value p q)
