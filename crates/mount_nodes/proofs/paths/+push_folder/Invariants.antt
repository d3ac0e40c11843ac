use Rattle.mount_nodes.proofs.paths.+push_folder.Given as goal

abbrev pub decreases-push_folder : goal.decreases-push_folder
decreases-push_folder l = l.limit
