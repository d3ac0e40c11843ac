use Rattle.client_view.proofs.file_reads.+are_kept.Given as goal

-- proposed from what the function passes where it calls itself
abbrev pub decreases-are_kept : goal.decreases-are_kept
decreases-are_kept l = l.count
