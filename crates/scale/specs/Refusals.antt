-- The number of each refusal.
use Rattle.std.specs.Prelude.{ℕ}
use Rattle.scale.specs.declared.refusal.Refusal.{Refusal}
use Rattle.scale.specs.declared.refusal.Refusal.TheVariants.{NoSuchPlace, PlaceTaken, NoSuchAtom, BottomGrade, PlaceEmpty, StaleCursor, ShortGradeBuffer, TextTooLong, NotEmpty, UnexpectedByte, WordTooLong, UnexpectedToken, NotAGrade, TooManyNames, LineTooLong, PointOutOfRange}

-- the number under which a refusal is known
abbrev pub number_of : Refusal → ℕ
number_of NoSuchPlace = 1
number_of PlaceTaken = 2
number_of NoSuchAtom = 3
number_of BottomGrade = 4
number_of PlaceEmpty = 5
number_of StaleCursor = 6
number_of ShortGradeBuffer = 7
number_of TextTooLong = 8
number_of NotEmpty = 9
number_of UnexpectedByte = 10
number_of WordTooLong = 11
number_of UnexpectedToken = 12
number_of NotAGrade = 13
number_of TooManyNames = 14
number_of LineTooLong = 15
number_of PointOutOfRange = 16
