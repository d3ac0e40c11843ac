-- Small worlds that break a part of the invariant on inode numbers, and no other part.
use Rattle.std.proofs.Common.{◌≡◌, ◌≢◌, inl, ℕ, ◌+◌, ◌≤◌, ◌==◌, ◌||◌, Bool, List, [], ◌∷◌, true, false, refl, ap, sym, ◌∙◌, subst, arith}
use Rattle.std.specs.Prelude.{is_some}
use Rattle.std.proofs.lemmas.Bool.{false≢true, eqb-true}
use Rattle.call_effects.specs.file_graph.Graph.{Graph, fresh, after_effects}
use Rattle.call_effects.specs.file_graph.Units.{charge}
use Rattle.call_effects.specs.file_graph.declared.effect.Kind.TheVariants as kind
use Rattle.call_effects.specs.ClosedGraph.{nobody}
use Rattle.call_effects.specs.Wholes.{IsSound}
use Rattle.call_effects.specs.Knowledge.{Agrees}
use Rattle.call_effects.proofs.Fresh.{fresh_sound}
use Rattle.call_effects.specs.Fits.{IsNew}
use Rattle.call_effects.specs.log_record.declared.format.Record.{Record}
use Rattle.world_invariant.specs.Logs.{IsPaid, Keeps, NamesNone}
use Rattle.world_invariant.specs.Limits.{IsWithin}
use Rattle.world_invariant.specs.World.{Account, Away, Client}
use Rattle.world_invariant.specs.FormatWorld.{knows_nothing, idle_client, idle_account}
use Rattle.world_invariant.specs.LeaseSteps.{also}
use Rattle.world_invariant.specs.BrokenWorlds.{make_record, making_directory, drop_record, with_file, taken_number, far_number, used_number, made_twice}
use Rattle.world_invariant.specs.Parts.{NumbersFree, NumbersInRange, ClientPart, MarkNotPast, AwayHasRecords, BackHasNone, RecordsLeased, RecordsPaid, RecordsNameNone, RecordsKeepLimits, UnitsBooked, MadeBooked, MadeOnce, GrantedBooked, GrantedUnused, CopiesLeased, BlocksLeased, BegunPlanned, HoldsOf, Book, Each, BreaksAlone}
use Rattle.world_invariant.proofs.AloneIdle.{nothing_known, one_others}
use Rattle.world_invariant.proofs.Fresh.{fresh_within}
use Rattle.world_invariant.proofs.Idle.{none_some, idle_stands}
use Rattle.world_invariant.proofs.NewNodes.{new_paid, new_names_none, new_keeps_limits, with_directory, drop_paid, drop_names_none, drop_keeps_limits, dropped, makes_file, file_sound, file_within, two_of}
use Rattle.world_invariant.proofs.Parts.{client_parts}

-- ---- a number that names a file, and one past all inodes: both are in the book alone

abbrev booked : ℕ → Account
booked i = record (idle_account 0) { numbers = also (λ j. false) i }

booked_own : (g : Graph) (i : ℕ) (q : ClientPart) → HoldsOf q g (booked i) 1 (idle_client 1 0)
booked_own g i MadeBooked = λ j e. absurd (false≢true e)
booked_own g i GrantedBooked = λ j e. absurd (false≢true e)
booked_own g i q = client_parts g (idle_account 0) 1 (idle_client 1 0) (idle_stands g 1 0) q

booked_is : (i j : ℕ) → also (λ j. false) i j ≡ true → j ≡ i
booked_is i j e = eqb-true j i (only (j == i) e)
  where
    only : (b : Bool) → (b || false) ≡ true → b ≡ true
    only true e = refl
    only false e = e

pub taken_alone : BreaksAlone (Book NumbersFree) taken_number
taken_alone = record {
  broken = λ is. false≢true (sym (ap is_some (is 1 2 refl refl)));
  others = one_others (Book NumbersFree) (charge with_file) with_file (booked 2) (idle_client 1 0) (record {
    own = λ q off. booked_own with_file 2 q;
    closed = refl;
    free = λ off. absurd (off refl);
    range = λ off i e. let two = booked_is 2 i e in (omega (arith, two), omega (arith, two));
    within = file_within [] (omega arith);
    fits = omega arith;
    sound = file_sound [];
    known = nothing_known 1 with_file refl;
  });
}

pub far_alone : BreaksAlone (Book NumbersInRange) far_number
far_alone = record {
  broken = λ is. let range = is 1 2000 refl refl in let high : 2000 ≤ 1024 = range.1 in absurd (omega (arith, high));
  others = one_others (Book NumbersInRange) (charge fresh) fresh (booked 2000) (idle_client 1 0) (record {
    own = λ q off. booked_own fresh 2000 q;
    closed = refl;
    free = λ off i e. ap fresh (booked_is 2000 i e);
    range = λ off. absurd (off refl);
    within = fresh_within;
    fits = omega arith;
    sound = fresh_sound;
    known = nothing_known 1 fresh refl;
  });
}

-- ---- a number that was used, and that its client has still

no_second : (r : Record) (rs : List Record) → r ∷ rs ≢ []
no_second r rs e = absurd (cc)

abbrev used_account : Account
used_account = record (idle_account 0) { units = 1; numbers = λ i. i == 2 }

abbrev used_client : Client
used_client = record (idle_client 1 0) { knows = record (knows_nothing 1) { granted = λ i. i == 2 }; sealed = making_directory ∷ drop_record ∷ []; other = Away; writes = λ i. i == 2 }

used_own : (q : ClientPart) → Each q ≢ Each GrantedUnused → HoldsOf q fresh used_account 1 used_client
used_own GrantedUnused off = absurd (off refl)
used_own MarkNotPast off = omega arith
used_own AwayHasRecords off = λ away. no_second making_directory (drop_record ∷ [])
used_own BackHasNone off = λ back. absurd (back refl)
used_own RecordsLeased off = λ i e. two_of (λ b. (b || false) || ((b || false) || false)) refl i e
used_own RecordsPaid off = (new_paid kind.Directory 1 (omega arith), (drop_paid with_directory, tt))
used_own RecordsNameNone off = (new_names_none kind.Directory 1, (drop_names_none, tt))
used_own RecordsKeepLimits off = (new_keeps_limits kind.Directory 1, (drop_keeps_limits with_directory, tt))
used_own UnitsBooked off = omega arith
used_own MadeBooked off = λ i e. two_of (λ b. (b || false) || false) refl i e
used_own MadeOnce off = λ i. (λ e. refl, (λ e. refl, tt))
used_own GrantedBooked off = λ i e. e
used_own CopiesLeased off = λ i copy e. none_some copy e
used_own BlocksLeased off = λ i b bytes e. none_some bytes e
used_own BegunPlanned off = λ b e. none_some b e
used_own q off = client_parts fresh (idle_account 0) 1 (idle_client 1 0) (idle_stands fresh 1 0) q

new_number : (i : ℕ) → (i == 2) ≡ true → IsNew fresh i
new_number i e = let two = eqb-true i 2 e in record { low = omega (arith, two); high = omega (arith, two); none = ap fresh two }

used_known : Agrees used_client.knows fresh nobody
used_known = record { client = refl; own = λ n. refl; back = fresh; put_back = λ i. inl refl; copies = λ i copy e. none_some copy e; blocks = λ i b bytes e. none_some bytes e; granted = new_number }

pub used_alone : BreaksAlone (Each GrantedUnused) used_number
used_alone = record {
  broken = λ is. false≢true (sym (is 1 refl 2 refl));
  others = one_others (Each GrantedUnused) (charge fresh + 1) fresh used_account used_client (record {
    own = used_own;
    closed = refl;
    free = λ off i e. ap fresh (eqb-true i 2 e);
    range = λ off i e. let two = eqb-true i 2 e in (omega (arith, two), omega (arith, two));
    within = fresh_within;
    fits = omega arith;
    sound = subst (λ g. IsSound g nobody) (sym dropped) fresh_sound;
    known = subst (λ g. Agrees used_client.knows g nobody) (sym dropped) used_known;
  });
}

-- ---- a number that is used twice

abbrev twice_account : Account
twice_account = record (idle_account 0) { units = 2; numbers = λ i. i == 2 }

abbrev twice_client : Client
twice_client = record (idle_client 1 0) { sealed = making_directory ∷ drop_record ∷ make_record ∷ []; other = Away; writes = λ i. i == 2 }

abbrev again : Graph
again = after_effects with_directory drop_record.effects

twice_own : (q : ClientPart) → Each q ≢ Each MadeOnce → HoldsOf q fresh twice_account 1 twice_client
twice_own MadeOnce off = absurd (off refl)
twice_own MarkNotPast off = omega arith
twice_own AwayHasRecords off = λ away. no_second making_directory (drop_record ∷ make_record ∷ [])
twice_own BackHasNone off = λ back. absurd (back refl)
twice_own RecordsLeased off = λ i e. two_of (λ b. (b || false) || ((b || false) || ((b || false) || false))) refl i e
twice_own RecordsPaid off = (new_paid kind.Directory 1 (omega arith), (drop_paid with_directory, (subst (λ g. IsPaid g make_record) (sym dropped) (new_paid kind.File 1 (omega arith)), tt)))
twice_own RecordsNameNone off = (new_names_none kind.Directory 1, (drop_names_none, (subst (λ g. NamesNone g make_record) (sym dropped) (new_names_none kind.File 1), tt)))
twice_own RecordsKeepLimits off = (new_keeps_limits kind.Directory 1, (drop_keeps_limits with_directory, (subst (λ g. Keeps IsWithin g make_record) (sym dropped) (new_keeps_limits kind.File 1), tt)))
twice_own UnitsBooked off = omega arith
twice_own MadeBooked off = λ i e. two_of (λ b. (b || false) || ((b || false) || false)) refl i e
twice_own GrantedBooked off = λ i e. absurd (false≢true e)
twice_own GrantedUnused off = λ i e. absurd (false≢true e)
twice_own CopiesLeased off = λ i copy e. none_some copy e
twice_own BlocksLeased off = λ i b bytes e. none_some bytes e
twice_own q off = client_parts fresh (idle_account 0) 1 (idle_client 1 0) (idle_stands fresh 1 0) q

made_again : after_effects again make_record.effects ≡ with_file
made_again = ap (λ g. after_effects g make_record.effects) dropped ∙ makes_file

pub twice_alone : BreaksAlone (Each MadeOnce) made_twice
twice_alone = record {
  broken = λ is. false≢true (sym ((is 1 refl 2).0 refl));
  others = one_others (Each MadeOnce) (charge fresh + 2) fresh twice_account twice_client (record {
    own = twice_own;
    closed = refl;
    free = λ off i e. ap fresh (eqb-true i 2 e);
    range = λ off i e. let two = eqb-true i 2 e in (omega (arith, two), omega (arith, two));
    within = fresh_within;
    fits = omega arith;
    sound = subst (λ g. IsSound g nobody) (sym made_again) (file_sound []);
    known = nothing_known 1 (after_effects again make_record.effects) refl;
  });
}
