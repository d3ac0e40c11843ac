-- What goes wrong in small worlds whose book breaks one part of the invariant each.
use Rattle.std.proofs.Common.{◌≡◌, ◌≢◌, inl, inr, ℕ, ◌-◌, ◌≤◌, cond, true, false, [], ◌∷◌, refl, Some, None, ap, sym, ◌∙◌, subst, arith, lit≤}
use Rattle.std.specs.Prelude.{is_some, option_map}
use Rattle.std.proofs.lemmas.Bool.{false≢true}
use Rattle.std.proofs.lemmas.Bool.Decides.{eqb_tells}
use Rattle.posix_calls.specs.Tree.{State, refers_to, has_open, is_open}
use Rattle.posix_calls.specs.Operations.{is_client}
use Rattle.posix_calls.proofs.Sums.{any_there, any_is}
use Rattle.call_effects.specs.file_graph.Graph.{FileBody}
use Rattle.call_effects.specs.Knowledge.{Agrees}
use Rattle.call_effects.specs.Wholes.{keep, tree_node}
use Rattle.world_invariant.specs.Limits.{IsWithin, AreWithin}
use Rattle.world_invariant.specs.Logs.{after_clients}
use Rattle.world_invariant.specs.World.{Account, World, log_of, whole_graph, held_descriptors, world_state}
use Rattle.world_invariant.specs.ClientParts.{IsBooked, IsNumbered}
use Rattle.world_invariant.specs.LeaseSteps.{write_taken}
use Rattle.world_invariant.specs.BookSteps.{IsUnbooked, units_granted, number_granted}
use Rattle.world_invariant.specs.Halves.{IsOnItsWay, number_received}
use Rattle.world_invariant.specs.ClientSteps.{after_reply}
use Rattle.world_invariant.specs.KernelSteps.{CanDigest, records_digested, CanReclaim, after_reclaim}
use Rattle.world_invariant.specs.Burial.{CanBury, client_buried}
use Rattle.world_invariant.proofs.Records.{either}
use Rattle.world_invariant.specs.Walk.{mkdir_a}
use Rattle.world_invariant.specs.Walk as walked
use Rattle.world_invariant.specs.BrokenWorlds.{counted_record, one_file, make_record, making_directory, drop_record, made_twice, to_be_named, past_limit, taken_number, far_number, unbooked_number, used_number, unbooked_node, still_open}
use Rattle.world_invariant.proofs.Owners.{is_low, is_high}
use Rattle.world_invariant.proofs.UnlinkWalks.{eight}
use Rattle.world_invariant.proofs.Kernels.{each}
use Rattle.world_invariant.proofs.Moved.{at_same}

-- ---- a number that names a file

pub taken_coming : IsOnItsWay taken_number 1 2
taken_coming = record { client = refl; booked = refl; absent = refl; unused = refl }

pub taken_received : Agrees ((number_received taken_number 1 2).clients 1).knows (whole_graph (number_received taken_number 1 2)) (held_descriptors (number_received taken_number 1 2)) → ⊥
unfolding after_clients
taken_received agrees = let new = agrees.granted 2 refl in false≢true (sym (ap is_some new.none))

-- ---- a number past all inodes

pub far_coming : IsOnItsWay far_number 1 2000
far_coming = record { client = refl; booked = refl; absent = refl; unused = refl }

pub far_received : Agrees ((number_received far_number 1 2000).clients 1).knows (whole_graph (number_received far_number 1 2000)) (held_descriptors (number_received far_number 1 2000)) → ⊥
far_received agrees = let new = agrees.granted 2000 refl in let high : 2000 ≤ 1024 = new.high in absurd (omega (arith, high))

-- ---- a number that isn't in the book

-- nobody else was granted a number
granted_free : (d : ℕ) → d ≢ 1 → (walked.granted_world.kernel.accounts d).numbers 2 ≡ false
granted_free d other = each (units_granted walked.start 1 10).kernel.accounts 1 (walked.granted_world.kernel.accounts 1) (λ d a. d ≢ 1 → a.numbers 2 ≡ false) (λ off. absurd (off refl)) (λ d off again. each walked.start.kernel.accounts 1 ((units_granted walked.start 1 10).kernel.accounts 1) (λ d a. a.numbers 2 ≡ false) refl (λ d off. refl) d) d other

-- and leases, copies and a begun call leave the book
accounts_stay : (d : ℕ) → walked.make_world.kernel.accounts d ≡ walked.granted_world.kernel.accounts d
accounts_stay d =
    ap (λ (f : ℕ → Account). f d) (at_same walked.ready.kernel.accounts 1)
    ∙ ap (λ (f : ℕ → Account). f d) (at_same walked.lease_world.kernel.accounts 1)
    ∙ ap (λ (f : ℕ → Account). f d) (at_same (write_taken walked.granted_world 1 1).kernel.accounts 1)
    ∙ ap (λ (f : ℕ → Account). f d) (at_same walked.granted_world.kernel.accounts 1)

pub unbooked_free : IsUnbooked unbooked_number.kernel 2
unbooked_free = record {
  low = omega arith;
  high = omega arith;
  none = refl;
  nobody = λ d is_d. each walked.make_world.kernel.accounts 1 (record (walked.make_world.kernel.accounts 1) { numbers = λ i. false }) (λ d a. is_client d ≡ true → d ≡ d → a.numbers 2 ≡ false) (λ is same. refl) (λ d other is same. making_free d other) d is_d refl;
}
  where
    making_free : (d : ℕ) → d ≢ 1 → (walked.make_world.kernel.accounts d).numbers 2 ≡ false
    making_free d other = ap (λ (a : Account). a.numbers 2) (accounts_stay d) ∙ granted_free d other

pub unbooked_taken : Agrees ((after_reply (number_granted unbooked_number 2 2) 1 mkdir_a).clients 2).knows (whole_graph (after_reply (number_granted unbooked_number 2 2) 1 mkdir_a)) (held_descriptors (after_reply (number_granted unbooked_number 2 2) 1 mkdir_a)) → ⊥
unfolding after_clients
unbooked_taken agrees = let new = agrees.granted 2 refl in false≢true (sym (ap is_some new.none))

-- ---- a number that was used

pub used_can : CanDigest used_number 1 (making_directory ∷ drop_record ∷ []) []
used_can = record { client = refl; some = λ e. absurd (cc); split = refl }

pub used_lost : IsNumbered ((records_digested used_number 1 (making_directory ∷ drop_record ∷ [])).kernel.accounts 1).numbers ((records_digested used_number 1 (making_directory ∷ drop_record ∷ [])).clients 1).knows.granted (log_of (records_digested used_number 1 (making_directory ∷ drop_record ∷ [])) 1) → ⊥
used_lost is = false≢true (is.granted 2 refl)

-- ---- a number that is used twice

pub twice_can : CanDigest made_twice 1 (making_directory ∷ drop_record ∷ []) (make_record ∷ [])
twice_can = record { client = refl; some = λ e. absurd (cc); split = refl }

pub twice_free : IsUnbooked (records_digested made_twice 1 (making_directory ∷ drop_record ∷ [])).kernel 2
twice_free = record { low = omega arith; high = omega arith; none = refl; nobody = λ d is_d. eight (λ d. ((records_digested made_twice 1 (making_directory ∷ drop_record ∷ [])).kernel.accounts d).numbers 2 ≡ false) refl refl refl refl refl refl refl refl d (is_low d is_d) (is_high d is_d) }

abbrev again : World
again = number_granted (records_digested made_twice 1 (making_directory ∷ drop_record ∷ [])) 2 2

pub twice_taken : Agrees (again.clients 2).knows (whole_graph again) (held_descriptors again) → ⊥
unfolding after_clients
twice_taken agrees = let new = agrees.granted 2 refl in false≢true (sym (ap is_some new.none))

-- ---- a record that names a file that has no name

pub naming_can : CanReclaim to_be_named.kernel 2
naming_can = record { file = record { bytes = []; is = refl }; unpinned = λ c is_c. eight (λ c. (to_be_named.kernel.accounts c).pins 2 ≡ false) refl refl refl refl refl refl refl refl c (is_low c is_c) (is_high c is_c) }

pub naming_seen : world_state (after_reclaim to_be_named 2) ≢ world_state to_be_named
unfolding after_clients
naming_seen e = false≢true (ap (λ (s : State). is_some (s.tree 2)) e)

-- ---- a record that passes a limit

pub one_within : AreWithin one_file
one_within i = elim (eqb_tells i 2) [
  | inl same ↦ subst (λ j. IsWithin j (one_file j)) (sym same.1) (record { low = omega arith; high = omega arith; names = omega arith; body = omega arith })
  | inr off ↦ subst (IsWithin i) (sym (ap (λ b. cond b (Some (record { names = 0; body = FileBody [] })) None) off.0)) tt
]

pub past_can : CanDigest past_limit 1 (counted_record 2000 ∷ []) (counted_record 1 ∷ [])
past_can = record { client = refl; some = λ e. absurd (cc); split = refl }

pub past_passed : IsBooked (records_digested past_limit 1 (counted_record 2000 ∷ [])).kernel → ⊥
past_passed is = let many : 2000 ≤ 1000 = (is.limits 2).names in absurd (omega (arith, many))

-- ---- a node of a number that isn't in the book

pub node_free : IsUnbooked unbooked_node.kernel 2
node_free = record {
  low = omega arith;
  high = omega arith;
  none = refl;
  nobody = λ d is_d. eight (λ d. (unbooked_node.kernel.accounts d).numbers 2 ≡ false) refl refl refl refl refl refl refl refl d (is_low d is_d) (is_high d is_d);
}

pub node_taken : Agrees ((number_granted unbooked_node 2 2).clients 2).knows (whole_graph (number_granted unbooked_node 2 2)) (held_descriptors (number_granted unbooked_node 2 2)) → ⊥
unfolding after_clients
node_taken agrees = let new = agrees.granted 2 refl in false≢true (sym (ap is_some new.none))

-- ---- a client that is settled with a file open

pub left_can : CanBury still_open 1
left_can = record { client = refl; settled = refl; digested = refl; back = λ e. absurd (cc) }

was_open : is_open (held_descriptors still_open) 2 ≡ true
unfolding is_open
was_open = any_there 8 1 (λ c. has_open (held_descriptors still_open c) 2) (lit≤ tt) (lit≤ tt) (any_there 32 1 (λ n. refers_to 2 (held_descriptors still_open 1 (n - 1))) (lit≤ tt) (lit≤ tt) refl)

now_closed : is_open (held_descriptors (client_buried still_open 1)) 2 ≡ false
unfolding is_open
now_closed = elim (either (is_open (held_descriptors (client_buried still_open 1)) 2)) [
  | inl there ↦ absurd (nobody_has there)
  | inr closed ↦ closed
]
  where
    nobody_has : is_open (held_descriptors (client_buried still_open 1)) 2 ≡ true → ⊥
    nobody_has there =
        let c = any_is 8 (λ c. has_open (held_descriptors (client_buried still_open 1) c) 2) there in
        let n = any_is 32 (λ n. refers_to 2 (held_descriptors (client_buried still_open 1) c.k (n - 1))) c.passes in
        false≢true (sym (eight (λ d. refers_to 2 (held_descriptors (client_buried still_open 1) d (n.k - 1)) ≡ false) refl refl refl refl refl refl refl refl c.k c.low c.high) ∙ n.passes)

pub left_seen : world_state (client_buried still_open 1) ≢ world_state still_open
unfolding after_clients
left_seen e = false≢true (sym (ap (λ b. is_some (option_map tree_node (keep b (whole_graph (client_buried still_open 1) 2)))) now_closed) ∙ ap (λ (s : State). is_some (s.tree 2)) e ∙ ap (λ b. is_some (option_map tree_node (keep b (whole_graph still_open 2)))) was_open)
