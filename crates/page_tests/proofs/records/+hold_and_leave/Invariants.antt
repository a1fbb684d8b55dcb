use Rattle.page_tests.proofs.records.+hold_and_leave.Given as goal

abbrev pub decreases-hold_and_leave : goal.decreases-hold_and_leave
decreases-hold_and_leave g l = l.left
