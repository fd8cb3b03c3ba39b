-- What the search needs of words and plans, together.
use Rattle.tp_laws.specs.Plans.{OfFormed, GroupsAreHappenings, CompleteWordsAreSpelled, WordLaws}
use Rattle.tp_laws.proofs.WordOfPlans.{spell-sound, spell-whole}
use Rattle.tp_laws.proofs.PlanOfLaws.{live-fronts}
use Rattle.tp_laws.proofs.TellOfTicks.{are-happenings, spelled-word}
use Rattle.tp_laws.proofs.ValidOfPlans.{words-possible}

groups-happen : OfFormed GroupsAreHappenings
groups-happen p l formed now commits w x turn sound complete is = are-happenings p l now commits w x formed sound complete is

words-spelled : OfFormed CompleteWordsAreSpelled
words-spelled p l formed now commits w x turn sound complete is = spelled-word p l now commits w x formed sound complete is

pub word-laws : OfFormed WordLaws
word-laws p l formed = record {
  fronts = live-fronts p l formed (spell-sound p l formed);
  whole = spell-whole p l formed;
  spelled = words-spelled p l formed;
  possible = words-possible groups-happen words-spelled p l formed;
}
