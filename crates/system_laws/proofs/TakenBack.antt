-- The last records of a sealed region are digested, and its client takes it back: the world then.
use Rattle.std.proofs.Common.{◌≡◌, inl, inr, ℕ, ◌+◌, cond, Bool, true, false, List, [], length, Option, Some, None, ap, sym, ◌∙◌, subst}
use Rattle.std.proofs.lemmas.Bool.Decides.{eqb_tells}
use Rattle.event_steps.specs.file_graph.Graph.{Graph}
use Rattle.event_steps.specs.log_record.declared.format.Record.{Record}
use Rattle.event_steps.specs.libfs.RegionSeal.{is_named, without_blocks_of}
use Rattle.event_steps.specs.world_invariant.ClientSteps.{with_client}
use Rattle.event_steps.specs.world_invariant.Invariant.{IsCoherent}
use Rattle.event_steps.specs.world_invariant.KernelSteps.{CanDigest, records_digested}
use Rattle.event_steps.specs.world_invariant.Logs.{after_records}
use Rattle.event_steps.specs.world_invariant.Machine.{account_after}
use Rattle.event_steps.specs.world_invariant.RegionSteps.{CanTakeBack, taken_back}
use Rattle.event_steps.specs.world_invariant.World.{Account, Client, World, at, moved_world, world_state}
use Rattle.event_steps.specs.world_invariant.World as world
use Rattle.event_steps.proofs.world_invariant_lemmas.Digests.{digested_holds, digested_tree}
use Rattle.event_steps.proofs.world_invariant_lemmas.Forgets.{blocks_forgotten_hold, blocks_forgotten_tree}
use Rattle.event_steps.proofs.world_invariant_lemmas.Regions.{taken_back_holds, taken_back_tree}
use Rattle.system_laws.proofs.Frame.{at_there}

-- ---- one client's part, again

at_again : {A : Type 0} (f : ℕ → A) (c : ℕ) (x y : A) → at (at f c x) c y ≡ at f c y
at_again f c x y = λ i d. each d i
  where
    each : (d : ℕ) → at (at f c x) c y d ≡ at f c y d
    each d = elim (eqb_tells d c) [
      | inl same ↦ ap (λ (b : Bool). cond b y (at f c x d)) same.0 ∙ sym (ap (λ (b : Bool). cond b y (f d)) same.0)
      | inr other ↦ ap (λ (b : Bool). cond b y (cond b x (f d))) other.0 ∙ sym (ap (λ (b : Bool). cond b y (f d)) other.0)
    ]

again : (w : World) (c : ℕ) (g : Graph) (a : Account) (p q : Client) → with_client (moved_world w c g a p) c q ≡ moved_world w c g a q
again w c g a p q = λ i. record {
  kernel = record { shared = g; capacity = w.kernel.capacity; accounts = (at_again w.kernel.accounts c a (at w.kernel.accounts c a c) ∙ ap (at w.kernel.accounts c) (at_there w.kernel.accounts c a)) i };
  clients = at_again w.clients c p q i;
}

-- what holds of a world: its parts fit together, and it stands for this tree
record IsAlike (w now : World) : Type 0 where
  holds : IsCoherent now
  tree : world_state now ≡ world_state w

-- ---- the world

-- the client that has its region back
abbrev pub back_client : Client → ℕ → List Record → Client
back_client p mark sealed = record p { knows = without_blocks_of p.knows sealed; past = mark; sealed = []; other = world.Back }

module _ (w : World) (c : ℕ) (first rest sealed : List Record) (h : IsCoherent w) (can : CanDigest w c first rest) (away : (w.clients c).other ≡ world.Away)
    (all : (w.kernel.accounts c).mark + length first ≡ (w.clients c).past + length (w.clients c).sealed) where
  abbrev p : Client
  p = w.clients c

  abbrev pub shared_then : Graph
  shared_then = after_records w.kernel.shared first

  abbrev pub account_then : Account
  account_then = account_after (w.kernel.accounts c) first

  -- its records are digested
  abbrev digested : World
  digested = records_digested w c first

  own : digested.clients c ≡ p
  own = at_there w.clients c p

  account : digested.kernel.accounts c ≡ account_then
  account = at_there w.kernel.accounts c account_then

  -- it comes back
  can_take : CanTakeBack digested c
  can_take = record {
    client = can.client;
    away = ap (λ (q : Client). q.other) own ∙ away;
    digested = ap (λ (a : Account). a.mark) account ∙ all ∙ sym (ap (λ (q : Client). q.past + length q.sealed) own);
  }

  abbrev back : Client
  back = record p { past = account_then.mark; sealed = []; other = world.Back }

  back_is : taken_back digested c ≡ moved_world w c shared_then account_then back
  back_is = (λ i. with_client digested c (record (own i) { past = (account i).mark; sealed = []; other = world.Back })) ∙ again w c shared_then account_then p back

  is_back : IsAlike w (moved_world w c shared_then account_then back)
  is_back = subst (IsAlike w) back_is (record {
    holds = taken_back_holds digested c (digested_holds w c first rest h can) can_take;
    tree = taken_back_tree digested c (digested_holds w c first rest h can) can_take ∙ digested_tree w c first rest h can;
  })

  -- and its blocks are forgotten
  abbrev there : World
  there = moved_world w c shared_then account_then back

  abbrev fewer : ℕ → ℕ → Option (List ℕ)
  fewer = (without_blocks_of p.knows sealed).blocks

  fewer_known : (i b : ℕ) (bytes : List ℕ) → fewer i b ≡ Some bytes → (there.clients c).knows.blocks i b ≡ Some bytes
  fewer_known i b bytes is = ap (λ (q : Client). q.knows.blocks i b) (at_there w.clients c back) ∙ by (is_named sealed i) is
    where
      by : (named : Bool) → cond named None (p.knows.blocks i b) ≡ Some bytes → p.knows.blocks i b ≡ Some bytes
      by true none = absurd (cc none)
      by false some = some

  forgotten_is : with_client there c (record (there.clients c) { knows = record (there.clients c).knows { blocks = fewer } }) ≡ moved_world w c shared_then account_then (back_client p account_then.mark sealed)
  forgotten_is = ap (λ (q : Client). with_client there c (record q { knows = record q.knows { blocks = fewer } })) (at_there w.clients c back) ∙ again w c shared_then account_then back (back_client p account_then.mark sealed)

  is_taken : IsAlike w (moved_world w c shared_then account_then (back_client p account_then.mark sealed))
  is_taken = subst (IsAlike w) forgotten_is (record {
    holds = blocks_forgotten_hold there c fewer is_back.holds (record { client = can.client; known = fewer_known });
    tree = blocks_forgotten_tree there c fewer is_back.holds (record { client = can.client; known = fewer_known }) ∙ is_back.tree;
  })

  pub taken_holds : IsCoherent (moved_world w c shared_then account_then (back_client p account_then.mark sealed))
  taken_holds = is_taken.holds

  pub taken_tree : world_state (moved_world w c shared_then account_then (back_client p account_then.mark sealed)) ≡ world_state w
  taken_tree = is_taken.tree
