-- The machine's records and those of the digester.
use Rattle.std.proofs.Common.{◌≡◌, ℕ, zero, suc, ◌+◌, ◌-◌, ◌<◌, ◌≤◌, true, Bool, List, [], ◌∷◌, length, take, drop, Option, Some, None, refl, ap, sym, ◌∙◌, subst, arith}
use Rattle.std.specs.List.{AllByRecursion}
use Rattle.std.specs.Prelude.{option_map}
use Rattle.std.proofs.lemmas.List.{length-drop, length-take-le, take-append-drop}
use Rattle.posix_calls.specs.Tree.{sum_up_to}
use Rattle.posix_calls.proofs.Sums.{there_if}
use Rattle.world_invariant.specs.file_graph.Graph.{Graph, Node, Body, FileBody, DirBody, after_effects, is_among}
use Rattle.world_invariant.specs.file_graph.Units.{charge}
use Rattle.world_invariant.specs.log_record.Grammar.{IsRecord}
use Rattle.world_invariant.specs.log_record.declared.format.Record.{Record}
use Rattle.world_invariant.specs.call_effects.NodeView.{view_of_body, view_of_node}
use Rattle.digester.specs.coalescer.Records.{effects_in}
use Rattle.migrator.specs.record_validation.Good.{KeepsLimits}
use Rattle.digester.specs.RecordCover.{AreCovered, units_of}
use Rattle.digester.specs.Plan.{IsFirstBad}
use Rattle.digester.proofs.Covered.{never_bad}
use Rattle.digester.proofs.PlanRuns.{after_more}
use Rattle.digester.specs.SealedLog.{SealedView, IsSealed, done_to, undone}
use Rattle.world_invariant.specs.Limits.{AreWithin, IsWithin, IsBodyWithin}
use Rattle.world_invariant.specs.Logs.{after_records, is_touched, is_written, units_in}
use Rattle.world_invariant.specs.World.{Account}
use Rattle.world_invariant.specs.ClientParts.{IsLogged}
use Rattle.world_invariant.specs.FormatWorld.{idle_account}
use Rattle.world_invariant.specs.Machine.{Machine, Sealed, IsRunning, StandsSealed, CanDigestNext, account_after, digest, undigested_sealed}
use Rattle.world_invariant.proofs.Kernels.{units_moved}
use Rattle.world_invariant.proofs.Records.{in_first, in_rest}
use Rattle.kernel_fs.specs.Book.{Accounts, IsBookOf}
use Rattle.kernel_fs.proofs.MarksGo.{undigested}
use Rattle.kernel_fs.specs.RegionAccept.{HasAsManyWaiting, IsRegionOf}

pub effects_are : (rs : List Record) (g : Graph) → after_effects g (effects_in rs) ≡ after_records g rs
effects_are [] g = refl
effects_are (r ∷ rs) g = after_more g r.effects (effects_in rs) ∙ effects_are rs (after_effects g r.effects)

pub units_same : (rs : List Record) → units_of rs ≡ units_in rs
units_same [] = refl
units_same (r ∷ rs) = ap (λ n. r.units + n) (units_same rs)

-- ---- what is within the limits keeps them

body_keeps : (names : ℕ) (b : Body) → names ≤ 1000 → IsBodyWithin b → KeepsLimits (Some (view_of_body names b))
body_keeps names (FileBody bytes) few within = (few, within)
body_keeps names (DirBody entries) few within = (few, within.few)

node_keeps : (i : ℕ) (o : Option Node) → IsWithin i o → KeepsLimits (option_map view_of_node o)
node_keeps i None within = tt
node_keeps i (Some n) within = body_keeps n.names n.body within.names within.body

pub covered : (held : List ℕ) (writes : ℕ → Bool) (rs : List Record) (g : Graph) → AreWithin g → AllByRecursion IsRecord rs → ((i : ℕ) → writes i ≡ true → is_among i held ≡ true) → IsLogged g writes rs → AreCovered held g rs
covered held writes [] g within spelled holds logged = tt
covered held writes (r ∷ rs) g within spelled holds logged =
    let next : AreWithin (after_effects g r.effects) = λ i. logged.limits.0 i (within i) in (
      record {
        spelled = spelled.0;
        holds = λ i e. holds i (logged.leased i (in_first (is_touched i r) (is_written i rs) e));
        paid = logged.paid.0;
        limits = λ i e. node_keeps i (after_effects g r.effects i) (next i);
      },
      covered held writes rs (after_effects g r.effects) next spelled.1 holds
          (record { leased = λ i e. logged.leased i (in_rest (is_touched i r) (is_written i rs) e); paid = logged.paid.1; unnamed = logged.unnamed.1; limits = logged.limits.1 }),
    )

all_behind : {A : Type 0} (P : A → Type 0) (n : ℕ) (xs : List A) → AllByRecursion P xs → AllByRecursion P (drop n xs)
all_behind P zero xs all = all
all_behind P (suc n) [] all = tt
all_behind P (suc n) (x ∷ xs) all = all_behind P n xs all.1

-- ---- an accepted region

module _ (x : SealedView) (m : Machine) (s : Sealed) (region : IsRegionOf x (m.kernel.accounts x.client).mark s) where
  abbrev own : Account
  own = m.kernel.accounts x.client

  pub same_undone : undigested_sealed own s ≡ undone x
  same_undone = undigested own s x.done (length (undone x)) region.waits ∙ ap (drop x.done) region.records

  -- with so many more of its records digested
  pub region_after : (n : ℕ) → n ≤ length (undone x) → IsRegionOf (done_to (x.done + n) x) ((digest m x.client (take n (undone x))).kernel.accounts x.client).mark s
  region_after n few =
      let many : length (take n (undone x)) ≡ n = length-take-le n (undone x) few in
      let long : length (undone x) ≡ length x.records - x.done = length-drop x.done x.records in
      let rest : length (drop (x.done + n) x.records) ≡ length x.records - (x.done + n) = length-drop (x.done + n) x.records in
      let behind = region.waits.behind in
      let all = region.waits.many in
      let moved : ((digest m x.client (take n (undone x))).kernel.accounts x.client).mark ≡ own.mark + length (take n (undone x)) = ap (λ (a : Account). a.mark) (there_if x.client (account_after own (take n (undone x))) own) in
      record {
        records = region.records;
        writes = region.writes;
        waits = record {
          behind = omega (arith, moved, many, long, rest, behind, few);
          many = omega (arith, all, long, rest, few);
        };
      }

  module _ (sealed : IsSealed x) where
    -- its units are among those that are out
    account_out : IsRunning m → own.units ≤ sum_up_to 8 (λ c. (m.kernel.accounts c).units)
    account_out runs =
        let sums : _ = units_moved m.kernel x.client m.kernel.shared (idle_account own.mark) runs.booked sealed.client in
        omega (arith, sums)

    pub never : (n k : ℕ) → IsRunning m → StandsSealed m.kernel.shared own s → IsFirstBad x.held m.kernel.capacity m.kernel.shared (take n (undone x)) k → ⊥
    never n k runs stands bad =
        let logged : IsLogged m.kernel.shared s.writes (undone x) = subst (IsLogged m.kernel.shared s.writes) same_undone stands.logged in
        let units : units_in (undone x) ≤ own.units = subst (λ (rs : List Record). units_in rs ≤ own.units) same_undone stands.units in
        let out : own.units ≤ sum_up_to 8 (λ c. (m.kernel.accounts c).units) = account_out runs in
        let fits : charge m.kernel.shared + sum_up_to 8 (λ c. (m.kernel.accounts c).units) ≤ m.kernel.capacity = runs.booked.fits in
        let same : units_of (undone x) ≡ units_in (undone x) = units_same (undone x) in
        never_bad x.held m.kernel.capacity m.kernel.shared m.kernel.shared (undone x) n k
        (covered x.held s.writes (undone x) m.kernel.shared runs.booked.limits (all_behind IsRecord x.done x.records sealed.spelled) region.writes logged)
        (λ i e. refl) (omega (arith, units, out, fits, same)) bad

    pub next : (book : Accounts) (n : ℕ) → IsBookOf book m → HasAsManyWaiting book x → 0 < n → n ≤ length (undone x) → CanDigestNext m x.client s (take n (undone x)) (drop n (undone x))
    next book n is accepted some few =
        let many : length (take n (undone x)) ≡ n = length-take-le n (undone x) few in
        let all : m.accepted x.client ≡ own.mark + length (undone x) = (is x.client sealed.client).waiting ∙ ap (λ k. own.mark + k) accepted in
        record {
          client = sealed.client;
          some = λ none. let zero_long : length (take n (undone x)) ≡ 0 = ap (λ (rs : List Record). length rs) none in omega (arith, zero_long, many, some);
          accepted = omega (arith, many, all, few);
          split = same_undone ∙ sym (take-append-drop n (undone x));
        }
