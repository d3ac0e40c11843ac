-- Where nobody holds anything and no log has a record, all of it holds.
use Rattle.std.proofs.Common.{◌≡◌, inl, ℕ, zero, suc, ◌≤◌, Bool, true, false, cond, [], ◌++◌, ◌-◌, drop, refl, Some, None, Option, ap, sym, ◌∙◌, subst, arith}
use Rattle.std.proofs.lemmas.Bool.{false≢true}
use Rattle.posix_calls.specs.Tree.{sum_up_to}
use Rattle.posix_calls.specs.Operations.{is_client}
use Rattle.posix_calls.proofs.Sums.{all_zero}
use Rattle.call_effects.specs.file_graph.Graph.{Graph}
use Rattle.call_effects.specs.file_graph.Units.{charge}
use Rattle.call_effects.specs.ClosedGraph.{nobody}
use Rattle.call_effects.specs.Wholes.{IsSound, state_of}
use Rattle.call_effects.specs.log_record.declared.format.Record.{Record}
use Rattle.world_invariant.specs.Limits.{AreWithin}
use Rattle.world_invariant.specs.Logs.{after_clients, is_written, ArePaid, NameNone, KeepLimits, units_in, is_made_in, IsMadeOnce}
use Rattle.world_invariant.specs.World.{records_of, whole_graph, held_descriptors, world_state}
use Rattle.world_invariant.specs.ClientParts.{IsSoundPart}
use Rattle.world_invariant.specs.Invariant.{IsCoherent}
use Rattle.call_effects.specs.Knowledge.{Agrees}
use Rattle.world_invariant.specs.FormatWorld.{knows_nothing, idle_client, idle_account, idle_world}

pub none_some : {A : Type 0} {P : Type 0} (x : A) → ◌≡◌ {A = Option A} None (Some x) → P
none_some x e = absurd (cc)

pub no_records : (n : ℕ) (g : Graph) → after_clients (λ c. []) g n ≡ g
unfolding after_clients
no_records zero g = refl
no_records (suc n) g = no_records n g

pub idle_whole : (capacity : ℕ) (g : Graph) → whole_graph (idle_world capacity g) ≡ g
idle_whole capacity g = no_records 8 g

either_none : {A : Type 0} (b : Bool) (x : Option A) → x ≡ None → cond b x None ≡ None
either_none true x e = e
either_none false x e = refl

pub idle_held : (capacity : ℕ) (g : Graph) → held_descriptors (idle_world capacity g) ≡ nobody
idle_held capacity g = λ t c n. either_none (is_client c) None refl t

-- an empty region leaves no record
pub nothing_left : (k : ℕ) → drop {A = Record} k [] ++ [] ≡ []
nothing_left zero = refl
nothing_left (suc k) = refl

pub idle_stands : (g : Graph) (c past : ℕ) → IsSoundPart g (idle_account past) c (idle_client c past)
idle_stands g c past = record {
  number = refl;
  rests = record { closed = λ e n. refl; idle = λ e. refl };
  marked = record { low = omega arith; high = omega arith; some = λ e. absurd (cc); none = λ other. refl };
  starts = record { records = λ e. refl; idle = λ e. refl };
  logged = record {
    leased = λ i e. absurd (false≢true (sym (ap (is_written i) (empty past)) ∙ e));
    paid = subst (ArePaid g) (sym (empty past)) tt;
    unnamed = subst (NameNone g) (sym (empty past)) tt;
    limits = subst (KeepLimits g) (sym (empty past)) tt;
  };
  units = let nothing : units_in (records_of (idle_account past) (idle_client c past)) ≡ 0 = ap units_in (empty past) in omega (arith, nothing);
  numbered = record { made = λ i e. absurd (false≢true (sym (ap (is_made_in i) (nothing_left (past - past))) ∙ e)); once = λ i. subst (IsMadeOnce i) (sym (nothing_left (past - past))) tt; granted = λ i e. e; unused = λ i e. absurd (false≢true e) };
  leased = record { copies = λ i copy e. none_some copy e; blocks = λ i b bytes e. none_some bytes e };
  pinned = record { opened = λ n o e. none_some o e; booked = λ i e. e };
  pending = λ b e. none_some b e;
}
  where
    empty : (past : ℕ) → records_of (idle_account past) (idle_client c past) ≡ []
    empty past = ap (λ rs. rs ++ []) (nothing_left (past - past))

pub idle_agrees : (capacity : ℕ) (g : Graph) (c : ℕ) → is_client c ≡ true → Agrees (knows_nothing c) (whole_graph (idle_world capacity g)) (held_descriptors (idle_world capacity g))
idle_agrees capacity g c is_c = record {
  client = is_c;
  own = λ n. either_none (is_client c) None refl;
  back = whole_graph (idle_world capacity g);
  put_back = λ i. inl refl;
  copies = λ i copy e. none_some copy e;
  blocks = λ i b bytes e. none_some bytes e;
  granted = λ i e. absurd (false≢true e);
}

pub idle_holds : (capacity : ℕ) (g : Graph) → charge g ≤ capacity → IsSound g nobody → AreWithin g → IsCoherent (idle_world capacity g)
idle_holds capacity g fits sound within =
    let nothing : sum_up_to 8 (λ c. 0) ≡ 0 = all_zero 8 (λ c. 0) (λ c. refl) in
    let sound_now : IsSound (whole_graph (idle_world capacity g)) (held_descriptors (idle_world capacity g)) = subst (λ h. IsSound (whole_graph (idle_world capacity g)) h) (sym (idle_held capacity g)) (subst (λ h. IsSound h nobody) (sym (idle_whole capacity g)) sound) in
    record {
      booked = record { free = λ c i is_c e. absurd (false≢true e); range = λ c i is_c e. absurd (false≢true e); alone = λ c d i is_c is_d other e. refl; limits = within; fits = omega (arith, nothing, fits) };
      stands = λ c is_c. idle_stands g c 0;
      beside = λ c d is_c is_d other i e. refl;
      sound = sound_now;
      agrees = idle_agrees capacity g;
    }

pub idle_tree : (capacity : ℕ) (g : Graph) → world_state (idle_world capacity g) ≡ state_of g nobody
idle_tree capacity g = ap (λ h. state_of h (held_descriptors (idle_world capacity g))) (idle_whole capacity g) ∙ ap (λ h. state_of g h) (idle_held capacity g)
