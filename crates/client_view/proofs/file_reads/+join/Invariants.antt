use Rattle.client_view.proofs.file_reads.+join.Given as goal

-- proposed from what the function passes where it calls itself
abbrev pub decreases-join : goal.decreases-join
decreases-join l = l.count
