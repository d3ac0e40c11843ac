-- What effects within the limits come to is within them.
use Rattle.std.proofs.Common.{◌≡◌, inl, inr, ℕ, ◌+◌, ◌≤◌, ◌==◌, cond, true, List, [], ◌∷◌, length, Some, None, Option, ap, sym, ◌∙◌, subst, arith}
use Rattle.std.specs.Prelude.{IfSome, is_some, nat_le}
use Rattle.std.specs.List.{AllByRecursion}
use Rattle.std.specs.Ordering.{nat_cmp}
use Rattle.std.specs.declared.cmp.Ordering.TheVariants.{Less, Equal, Greater}
use Rattle.std.specs.Cmp.Lexicographic.{slice_cmp, nat_list_cmp_total}
use Rattle.std.specs.FinMap as fin
use Rattle.std.specs.FinMap.Entries.{put, by_order}
use Rattle.std.proofs.lemmas.Bool.{false≢true, leb-true}
use Rattle.std.proofs.lemmas.Bool.Decides.{eqb_tells}
use Rattle.posix_calls.proofs.Directory.{entries-empty}
use Rattle.posix_calls.specs.declared.limits.TheConstants.{MAX_FILE, MAX_NAMES}
use Rattle.file_graph.specs.Numbers.{is_inode}
use Rattle.file_graph.specs.declared.effect.Effect.{Effect}
use Rattle.file_graph.specs.declared.effect.Effect.TheVariants as effect
use Rattle.graph_change.specs.Bytes.{Length, Grown, Cut, end, grown_to}
use Rattle.graph_change.specs.Net.{Base, Kept, Made, Gone, Child}
use Rattle.graph_change.specs.Change.{Change, Changes, subject, new_change, change_after, change_at, with_effect, with_effects, coalesced_changes}
use Rattle.graph_change.specs.Bounds.{is_bounded, LeadsToInode, IsBounded, AreBounded}
use Rattle.graph_change.proofs.Law.{change_put, empty_at}
use Rattle.graph_change.proofs.Tidying.{both_true, sized_end}
use Rattle.graph_change.proofs.Touched.{key_put, or_cases}

-- ---- one entry more

put_leads : (name : List ℕ) (what : Option Child) (es : List (List ℕ × Option Child)) → IfSome what (λ child. is_inode child.0 ≡ true) → AllByRecursion LeadsToInode es → AllByRecursion LeadsToInode (put (slice_cmp nat_cmp) name what es)
put_leads name what [] one all = (one, tt)
put_leads name what (e ∷ es) one all =
    elim (slice_cmp nat_cmp name e.0) as (λ o. AllByRecursion LeadsToInode (by_order o ((name, what) ∷ e ∷ es) ((e.0, what) ∷ es) (e ∷ put (slice_cmp nat_cmp) name what es))) [
      | Less ↦ (one, all)
      | Equal ↦ (one, all.1)
      | Greater ↦ (all.0, put_leads name what es one all.1)
    ]

-- ---- one inode

pub bounded_new : (base : Base) → IsBounded (new_change base)
bounded_new base = record { names = tt; length = omega arith; entries = subst (AllByRecursion LeadsToInode) (sym (entries-empty (Option Child))) tt }

grown_most : (n most : ℕ) (len : Length) → end len ≤ most → n ≤ most → end (grown_to n len) ≤ most
grown_most n most (Grown to) low le = omega (arith, low, le)
grown_most n most (Cut least to) low le = omega (arith, low, le)

bounded_after : (e : Effect) (c : Change) → is_bounded e ≡ true → IsBounded c → IsBounded (change_after e c)
bounded_after (effect.Make i kind) c is b = bounded_new (Made kind)
bounded_after (effect.Enter d i kind name) c is b = record {
  names = b.names;
  length = b.length;
  entries = subst (AllByRecursion LeadsToInode) (sym (fin.entries-insert nat_list_cmp_total c.entries name (Some (i, kind)))) (put_leads name (Some (i, kind)) (fin.entries c.entries) (both_true (is_inode d) (is_inode i) is).1 b.entries);
}
bounded_after (effect.Leave d name) c is b = record {
  names = b.names;
  length = b.length;
  entries = subst (AllByRecursion LeadsToInode) (sym (fin.entries-insert nat_list_cmp_total c.entries name None)) (put_leads name None (fin.entries c.entries) tt b.entries);
}
bounded_after (effect.Names i n) c is b = record { names = leb-true n MAX_NAMES (both_true (is_inode i) (nat_le n MAX_NAMES) is).1; length = b.length; entries = b.entries }
bounded_after (effect.Size i size) c is b =
    let low = leb-true size MAX_FILE (both_true (is_inode i) (nat_le size MAX_FILE) is).1 in
    record { names = b.names; length = omega (arith, low, sized_end size c.length); entries = b.entries }
bounded_after (effect.Bytes i at bytes) c is b =
    let low = leb-true (at + length bytes) MAX_FILE (both_true (is_inode i) (nat_le (at + length bytes) MAX_FILE) is).1 in
    record { names = b.names; length = grown_most (at + length bytes) MAX_FILE c.length b.length low; entries = b.entries }
bounded_after (effect.Drop i) c is b = bounded_new Gone
bounded_after (effect.Swap d a e f) c is b = b

-- ---- many inodes, many effects

on_inode : (e : Effect) → is_bounded e ≡ true → is_inode (subject e) ≡ true
on_inode (effect.Make i kind) is = is
on_inode (effect.Enter d i kind name) is = (both_true (is_inode d) (is_inode i) is).0
on_inode (effect.Leave d name) is = is
on_inode (effect.Names i n) is = (both_true (is_inode i) (nat_le n MAX_NAMES) is).0
on_inode (effect.Size i size) is = (both_true (is_inode i) (nat_le size MAX_FILE) is).0
on_inode (effect.Bytes i at bytes) is = (both_true (is_inode i) (nat_le (at + length bytes) MAX_FILE) is).0
on_inode (effect.Drop i) is = is
on_inode (effect.Swap d a e b) is = (both_true (is_inode d) (is_inode e) is).0

pub bounded_one : (e : Effect) (cs : Changes) → is_bounded e ≡ true → AreBounded cs → AreBounded (with_effect e cs)
bounded_one e cs is b =
    let s = subject e in
    let c = change_after e (change_at cs s) in
    record {
      inodes = λ i has. elim (eqb_tells i s) [
        | inl here ↦ ap is_inode here.1 ∙ on_inode e is
        | inr off ↦ elim (or_cases (i == s) (fin.contains_key cs i) (sym (key_put cs s c i) ∙ has)) [
          | inl here ↦ absurd (false≢true (sym off.0 ∙ here))
          | inr old ↦ b.inodes i old
        ]
      ];
      changes = λ i. elim (eqb_tells i s) [
        | inl here ↦ subst IsBounded (sym (change_put e cs i ∙ ap (λ t. cond t c (change_at cs i)) here.0)) (bounded_after e (change_at cs s) is (b.changes s))
        | inr off ↦ subst IsBounded (sym (change_put e cs i ∙ ap (λ t. cond t c (change_at cs i)) off.0)) (b.changes i)
      ];
    }

bounded_none : AreBounded fin.empty
bounded_none = record {
  inodes = λ i has. absurd (false≢true (sym (ap is_some (fin.get-empty nat_cmp i)) ∙ has));
  changes = λ i. subst IsBounded (sym (empty_at i)) (bounded_new Kept);
}

pub bounded_many : (es : List Effect) (cs : Changes) → AllByRecursion (λ e. is_bounded e ≡ true) es → AreBounded cs → AreBounded (with_effects cs es)
bounded_many [] cs all b = b
bounded_many (e ∷ es) cs all b = bounded_many es (with_effect e cs) all.1 (bounded_one e cs all.0 b)

pub bounded_coalesced : (es : List Effect) → AllByRecursion (λ e. is_bounded e ≡ true) es → AreBounded (coalesced_changes es)
bounded_coalesced es all = bounded_many es fin.empty all bounded_none
