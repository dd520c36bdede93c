use Rattle.csv_capture.proofs.stamp.give.Goals as goal

pub returns-in-Some-clause-stands : goal.returns-in-Some-clause-stands
returns-in-Some-clause-stands c = λ s closed h. rw c.in-Some.is (c.give.ensures.stands s closed h)
