-- When a file goes: with its last name and its last descriptor.
use Rattle.std.proofs.Common.{◌≡◌, [], ◌∷◌, true, false, refl, Some, None, ◌∙◌}
use Rattle.posix_calls.specs.Tree.{File, State, set_node, names_of, is_open, any_up_to}
use Rattle.posix_calls.specs.Own.{set_descriptor}
use Rattle.posix_calls.specs.EmptyTree.{empty_tree}
use Rattle.posix_calls.specs.declared.operation.Operation.TheVariants.{CloseFile}
use Rattle.posix_calls.specs.Operations.{state_after}
use Rattle.posix_calls.proofs.Changes.{bare_names}
use Rattle.posix_calls.proofs.Settled.{no_names}

-- file 2, which client 1 has open at number 0
nameless : State
nameless = record { tree = set_node empty_tree 2 (Some (File (97 ∷ []))); descriptors = set_descriptor (λ c n. None) 1 0 (Some (record { inode = 2; reads = true; writes = true })) }

nameless_names : names_of nameless.tree 2 ≡ 0
unfolding nameless
nameless_names = bare_names empty_tree 2 (Some (File (97 ∷ []))) refl refl 2 ∙ no_names 2

-- it goes where that is closed
closed_goes : (state_after 1 0 nameless (CloseFile 2 0)).tree 2 ≡ None
unfolding nameless is_open any_up_to
closed_goes = simp nameless_names refl

-- and stays where another client has it open too
shared : State
shared = record { tree = nameless.tree; descriptors = set_descriptor nameless.descriptors 8 31 (Some (record { inode = 2; reads = true; writes = false })) }

closed_stays : (state_after 1 0 shared (CloseFile 2 0)).tree 2 ≡ Some (File (97 ∷ []))
unfolding nameless shared is_open any_up_to
closed_stays = simp nameless_names refl
