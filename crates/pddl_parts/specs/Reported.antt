-- A fault as the readers of PDDL files report it.
use Rattle.std.specs.Prelude.{ℕ}
use Rattle.pddl_parts.specs.declared.faults.Fault.{Fault}
use Rattle.pddl_parts.specs.declared.faults.Kind.{Kind}
use Rattle.pddl_parts.specs.declared.faults.Kind.TheVariants.{Shape, LeftOut, Unknown, Arity, Twice, Cycle, NotWhole, TooLarge, ClashingTimed, OtherDomain}
use Rattle.pddl_parts.specs.declared.faults.PddlFault.{PddlFault}
use Rattle.pddl_parts.specs.declared.faults.PddlFault.TheVariants.{Shape as ShapeAt, LeftOut as LeftOutAt, Unknown as UnknownAt, Arity as ArityAt, Twice as TwiceAt, Cycle as CycleAt, NotWhole as NotWholeAt, TooLarge as TooLargeAt, ClashingTimed as ClashingTimedAt, OtherDomain as OtherDomainAt}

-- a kind of fault at a byte, as one value
abbrev pub at_byte : Kind → ℕ → PddlFault
at_byte Shape at = ShapeAt at
at_byte LeftOut at = LeftOutAt at
at_byte Unknown at = UnknownAt at
at_byte Arity at = ArityAt at
at_byte Twice at = TwiceAt at
at_byte Cycle at = CycleAt at
at_byte NotWhole at = NotWholeAt at
at_byte TooLarge at = TooLargeAt at
at_byte ClashingTimed at = ClashingTimedAt at
at_byte OtherDomain at = OtherDomainAt at

-- a fault as one value
abbrev pub reported : Fault → PddlFault
reported f = at_byte f.kind f.at
