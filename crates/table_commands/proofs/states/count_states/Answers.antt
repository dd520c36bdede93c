use Rattle.position_nfa.specs.Alphabets.{wheel}
use Rattle.position_nfa.specs.Views.{alphabet}
use Rattle.subset_build.specs.Views.{states_of}
use Rattle.table_commands.proofs.states.count_states.Goals as goal

pub returns-in-Ok-clause-counts : goal.returns-in-Ok-clause-counts
returns-in-Ok-clause-counts c = record {
  states = states_of c.in-Ok.automaton;
  family = c.in-Ok.ensures.family (wheel (alphabet c.args.nfa.now)) c.requires.own;
  many = c.count.ensures;
}

pub returns-in-Ok-clause-few : goal.returns-in-Ok-clause-few
returns-in-Ok-clause-few c = record {
  alphabet = alphabet c.args.nfa.now;
  own = c.requires.own;
  few = c.in-Ok.ensures.not_more (wheel (alphabet c.args.nfa.now)) c.requires.own;
}

pub returns-in-Err-TooLarge-clause-kinds : goal.returns-in-Err-TooLarge-clause-kinds
returns-in-Err-TooLarge-clause-kinds c =
    let told = c.in-Err-TooLarge.ensures.too_large c.in-Err-TooLarge.limit c.in-Err-TooLarge.field-0-is in
    record {
      alphabet = alphabet c.args.nfa.now;
      own = c.requires.own;
      holds = told.0;
      many = told.1 (wheel (alphabet c.args.nfa.now)) c.requires.own;
    }
