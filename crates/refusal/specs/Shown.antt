-- The line that a log shows of a refusal: its number, what it means in words, and its details.
use Rattle.std.specs.Prelude.{List, ◌++◌, ℕ, ℤ, codes}
use Rattle.std.specs.Fmt.{decimal, signed_decimal}
use Rattle.refusal.specs.declared.Refusal.{Refusal}
use Rattle.refusal.specs.declared.Side.{Side}
use Rattle.refusal.specs.declared.Refusal.TheVariants.{WordCount, TooMany, NotInForm, OutOfPlace, EmptyList, TooDeep, EmptySide, TooSmall, WideOffset, TooFewCells, WrongSize, HeaderRange, OutOfTurn, NoSuchColour}

-- sums of text go to the right
abbrev pub shown_side : Side → List ℕ
shown_side side =
    codes "place "
    ++ (decimal side.place
    ++ (codes ", property "
    ++ (decimal side.property
    ++ (codes ", value "
    ++ (signed_decimal side.value ++ (codes ", low " ++ (signed_decimal side.low ++ (codes ", high " ++ signed_decimal side.high))))))))

abbrev pub shown : Refusal → List ℕ
shown WordCount = codes "1, a word count that is no multiple of the node or record size"
shown TooMany = codes "2, too many nodes or records"
shown (NotInForm place) = codes "3, a node or record that is not in its form: place " ++ decimal place
shown (OutOfPlace place) = codes "4, children out of place, or a list too short or too long: place " ++ decimal place
shown EmptyList = codes "5, a walk over an empty list"
shown (TooDeep place) = codes "6, a node at depth 2049: place " ++ decimal place
shown (EmptySide side) = codes "7, a split with an empty side: " ++ shown_side side
shown (TooSmall needed) = codes "8, a work area, memory, ring or output too small: words needed " ++ decimal needed
shown (WideOffset place) = codes "9, a leaf offset outside -32768..32767: place " ++ decimal place
shown (TooFewCells needed) = codes "10, too few cells: cells needed " ++ decimal needed
shown WrongSize = codes "11, a width, position, row length or plane length that is wrong"
shown HeaderRange = codes "12, a header value out of range"
shown OutOfTurn = codes "13, a call out of turn"
shown NoSuchColour = codes "14, a colour operation over 6 or an order over 5"
