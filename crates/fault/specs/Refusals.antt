-- Every refusal's number, place and rank. A place is an octet's offset in a frame or a body, or 0.
use Rattle.std.specs.Prelude.{ℕ, List, ◌++◌, codes}
use Rattle.std.specs.Fmt.{decimal}
use Rattle.fault.specs.declared.FrameFault.{FrameFault}
use Rattle.fault.specs.declared.FrameFault.TheVariants.{Short, Fixed, Kind, Header, Length, Size, Field, Body, Tail, Lifetime, Number, Range, Order, Summary, Check}
use Rattle.fault.specs.declared.CallFault.{CallFault}
use Rattle.fault.specs.declared.CallFault.TheVariants.{Frame, Unknown, Full, NotEmpty, TooMany, Taken, Attached, Service, Inactive, NoNumber, ClockEnd, Waiting}

abbrev pub frame_number : FrameFault → ℕ
frame_number (Short n) = 1
frame_number (Fixed at) = 2
frame_number Kind = 3
frame_number Header = 4
frame_number Length = 4
frame_number Size = 4
frame_number (Field at) = 5
frame_number (Body at) = 5
frame_number (Tail at) = 5
frame_number (Lifetime at) = 6
frame_number Number = 6
frame_number Range = 6
frame_number (Order at) = 6
frame_number Summary = 6
frame_number Check = 7

abbrev pub frame_place : FrameFault → ℕ
frame_place (Short n) = n
frame_place (Fixed at) = at
frame_place Kind = 4
frame_place Header = 1
frame_place Length = 8
frame_place Size = 0
frame_place (Field at) = at
frame_place (Body at) = at
frame_place (Tail at) = at
frame_place (Lifetime at) = at
frame_place Number = 20
frame_place Range = 17
frame_place (Order at) = at
frame_place Summary = 0
frame_place Check = 24

abbrev pub call_number : CallFault → ℕ
call_number (Frame f) = frame_number f
call_number Unknown = 8
call_number Full = 9
call_number NotEmpty = 10
call_number TooMany = 11
call_number Taken = 12
call_number Attached = 13
call_number Service = 14
call_number Inactive = 15
call_number NoNumber = 16
call_number ClockEnd = 17
call_number Waiting = 18

abbrev pub call_place : CallFault → ℕ
call_place (Frame f) = frame_place f
call_place Unknown = 0
call_place Full = 0
call_place NotEmpty = 0
call_place TooMany = 0
call_place Taken = 0
call_place Attached = 0
call_place Service = 0
call_place Inactive = 0
call_place NoNumber = 0
call_place ClockEnd = 0
call_place Waiting = 0

-- how a refusal is shown: `refused 4 at 8`
abbrev pub refusal_text : ℕ → ℕ → List ℕ
refusal_text number place = codes "refused " ++ decimal number ++ codes " at " ++ decimal place
