use Rattle.command_words.proofs.FiveWords.{fewer, more}
use Rattle.command_words.proofs.stimuli.read_stim.Goals.{in_default-via-then-words-lt5, in_default-via-else-words-lt5+else-words-lt6}
use Rattle.command_words.proofs.stimuli.read_stim.Goals as goal

pub returns-in_default-clause-order : goal.returns-in_default-clause-order
returns-in_default-clause-order c =
    elim c.in_default.branch [
      | in_default-via-then-words-lt5 w ↦ fewer c.args.words.now (search w)
      | in_default-via-else-words-lt5+else-words-lt6 w ↦ more c.args.words.now (search w)
    ]
