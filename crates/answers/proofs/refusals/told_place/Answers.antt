use mathlib.Core.Path.{sym, ap}
use Rattle.plan.specs.Refusals.{place_of}
use Rattle.answers.proofs.refusals.told_place.Goals as goal

pub returns-in-WrongByte : goal.returns-in-WrongByte
returns-in-WrongByte c = sym (ap place_of c.in-WrongByte.is)

pub returns-in-LargeCount : goal.returns-in-LargeCount
returns-in-LargeCount c = sym (ap place_of c.in-LargeCount.is)

pub returns-in-WrongSum : goal.returns-in-WrongSum
returns-in-WrongSum c = sym (ap place_of c.in-WrongSum.is)

pub returns-in-ShortTable : goal.returns-in-ShortTable
returns-in-ShortTable c = sym (ap place_of c.in-ShortTable.is)

pub returns-in-OutOfRange : goal.returns-in-OutOfRange
returns-in-OutOfRange c = sym (ap place_of c.in-OutOfRange.is)

pub returns-in-DefinedTwice : goal.returns-in-DefinedTwice
returns-in-DefinedTwice c = sym (ap place_of c.in-DefinedTwice.is)

pub returns-in-NotDefined : goal.returns-in-NotDefined
returns-in-NotDefined c = sym (ap place_of c.in-NotDefined.is)

pub returns-in-Cyclic : goal.returns-in-Cyclic
returns-in-Cyclic c = sym (ap place_of c.in-Cyclic.is)

pub returns-in-BadDifference : goal.returns-in-BadDifference
returns-in-BadDifference c = sym (ap place_of c.in-BadDifference.is)

pub returns-in-BadSymbol : goal.returns-in-BadSymbol
returns-in-BadSymbol c = sym (ap place_of c.in-BadSymbol.is)

pub returns-in-ShortBuffer : goal.returns-in-ShortBuffer
returns-in-ShortBuffer c = sym (ap place_of c.in-ShortBuffer.is)

pub returns-in-BadVector : goal.returns-in-BadVector
returns-in-BadVector c = sym (ap place_of c.in-BadVector.is)

pub returns-in-LongInput : goal.returns-in-LongInput
returns-in-LongInput c = sym (ap place_of c.in-LongInput.is)

pub returns-in-Unreadable : goal.returns-in-Unreadable
returns-in-Unreadable c = sym (ap place_of c.in-Unreadable.is)

pub returns-in-NotInOrder : goal.returns-in-NotInOrder
returns-in-NotInOrder c = sym (ap place_of c.in-NotInOrder.is)

pub returns-in-LongDifference : goal.returns-in-LongDifference
returns-in-LongDifference c = sym (ap place_of c.in-LongDifference.is)

pub returns-in-NotExplained : goal.returns-in-NotExplained
returns-in-NotExplained c = sym (ap place_of c.in-NotExplained.is)

pub returns-in-WrongMark : goal.returns-in-WrongMark
returns-in-WrongMark c = sym (ap place_of c.in-WrongMark.is)

pub returns-in-NotOnCards : goal.returns-in-NotOnCards
returns-in-NotOnCards c = sym (ap place_of c.in-NotOnCards.is)

pub returns-in-ManyX : goal.returns-in-ManyX
returns-in-ManyX c = sym (ap place_of c.in-ManyX.is)

pub returns-in-Justice : goal.returns-in-Justice
returns-in-Justice c = sym (ap place_of c.in-Justice.is)

pub returns-in-NoGate : goal.returns-in-NoGate
returns-in-NoGate c = sym (ap place_of c.in-NoGate.is)

pub returns-in-WrongValue : goal.returns-in-WrongValue
returns-in-WrongValue c = sym (ap place_of c.in-WrongValue.is)

pub returns-in-ManyGates : goal.returns-in-ManyGates
returns-in-ManyGates c = sym (ap place_of c.in-ManyGates.is)

pub returns-in-ManyLatches : goal.returns-in-ManyLatches
returns-in-ManyLatches c = sym (ap place_of c.in-ManyLatches.is)

pub returns-in-ManyInputs : goal.returns-in-ManyInputs
returns-in-ManyInputs c = sym (ap place_of c.in-ManyInputs.is)

pub returns-in-NotAlike : goal.returns-in-NotAlike
returns-in-NotAlike c = sym (ap place_of c.in-NotAlike.is)
