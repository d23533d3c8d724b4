-- The answers of a check: a refusal has the number that 01 and 02 give it, and a check that passes has the number 0. The laws are in `RefusalsLaws`.
use Rattle.std.specs.Prelude.{Bool, cond, ℕ, Result, Ok, Err}
use Rattle.base.specs.declared.rules.Refusal.{Refusal}
use Rattle.base.specs.declared.rules.Refusal.TheVariants.{Kind, Field, Channels, MapSize, KernelSide, Stride, Padding, Output, Crop, MapLength, KernelLength, OutputLength, ScratchLength, Peak, ValueAbove, Load, Index, WordCount, Residues, Levels, StepCount, Links, Added, BlankChannel, ValueBelow, Filter, JoinedSide, JoinedWeight, NoWindow}

-- the number that is answered
abbrev pub number_of : Refusal → ℕ
number_of Kind = 1
number_of Field = 2
number_of Channels = 3
number_of MapSize = 4
number_of KernelSide = 5
number_of Stride = 6
number_of Padding = 7
number_of Output = 8
number_of Crop = 9
number_of MapLength = 10
number_of KernelLength = 11
number_of OutputLength = 12
number_of ScratchLength = 13
number_of Peak = 14
number_of ValueAbove = 15
number_of Load = 16
number_of Index = 17
number_of WordCount = 18
number_of Residues = 19
number_of Levels = 20
number_of StepCount = 21
number_of Links = 22
number_of Added = 23
number_of BlankChannel = 24
number_of ValueBelow = 25
number_of Filter = 26
number_of JoinedSide = 27
number_of JoinedWeight = 28
number_of NoWindow = 29

-- what one rule answers
unfoldable pub required : (refusal : Refusal) → (holds : Bool) → Result (Unit {0}) Refusal
required refusal holds = cond holds (Ok tt) (Err refusal)

-- the number of a check's answer
abbrev pub code_of : Result (Unit {0}) Refusal → ℕ
code_of (Ok passed) = 0
code_of (Err refusal) = number_of refusal
