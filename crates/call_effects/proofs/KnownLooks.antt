-- No call misses a kind alone: where a node is missing, the call looks at it.
use Rattle.std.proofs.Common.{◌≡◌, ℕ, List, refl, Some, None, Option, Ok, ap, sym, ◌∙◌, subst, true}
use Rattle.std.specs.Prelude.{option_map}
use Rattle.std.specs.FinMap as fin
use Rattle.posix_calls.specs.Content.{Entries}
use Rattle.posix_calls.specs.Tree.{Own, Descriptors}
use Rattle.posix_calls.specs.declared.call.Call.{Call}
use Rattle.posix_calls.specs.declared.operation.Missing.TheVariants as missing
use Rattle.posix_calls.specs.declared.operation.Operation.{Operation}
use Rattle.posix_calls.specs.Query.{Seen, File, Dir, Query, Gives, Refuses, IsDir, Look, Range, run}
use Rattle.posix_calls.specs.Part.{Part, Found, Known, Unknown, blocks_missing, run_part}
use Rattle.posix_calls.specs.Walk.{entries_seen, entries_at}
use Rattle.posix_calls.specs.Decide.{decide}
use Rattle.posix_calls.proofs.Counts.{order}
use Rattle.log_record.specs.file_graph.Graph.{Graph}
use Rattle.call_effects.specs.NodeView.{NodeView, FileView, DirView, view_seen}
use Rattle.call_effects.specs.Wholes.{without_kinds}
use Rattle.call_effects.specs.Knowledge.{Knowledge, Agrees, IsLookedAtNext, part_of}
use Rattle.call_effects.proofs.Inodes.{get_inodes}
use Rattle.call_effects.proofs.Changes.{IsFair}
use Rattle.call_effects.proofs.Facts.{some_first}
use Rattle.call_effects.proofs.KnownAsking.{QueryAll, query_call, dir_answered, read_known}
use Rattle.call_effects.proofs.KnownMissing.{Answers}
use Rattle.call_effects.proofs.KnownKinds.{entry_told, told_answered}

-- a look at an inode may find nothing known, and a range of bytes
abbrev Any : ℕ → Type 0
Any i = Unit {0}

abbrev AnyRange : ℕ → ℕ → ℕ → Type 0
AnyRange i at count = Unit {0}

-- where each kind that is asked for is known, what is missing is looked at
looked_at : (p : Part) (q : Query Operation) (i : ℕ) → QueryAll p (λ j. Answers (p.is_dir j)) Any AnyRange q → run_part p q ≡ Unknown (missing.Node i) → IsLookedAtNext p i q
unfolding QueryAll run_part run
looked_at p (Gives x) i asks e = absurd (cc)
looked_at p (Refuses x) i asks e = absurd (cc)
looked_at p (IsDir j next) i (known, asks) e =
    let o = known.0 in
    let rest = looked_at p (next o) i (asks o known.1) (sym (dir_answered p j next o known.1) ∙ e) in
    record { next = rest.next; unknown = rest.unknown; same = λ v part. ap (λ x. run v (next x)) (part.is_dir j o known.1) ∙ rest.same v part }
looked_at p (Look j next) i (met, asks) e =
    elim (p.node j) as (λ o. p.node j ≡ o → ◌≡◌ {A = Found Operation} (elim o [ None ↦ Unknown (missing.Node j) | Some a ↦ run_part p (next a) ]) (Unknown (missing.Node i)) → IsLookedAtNext p i (Look j next)) [
      | None ↦ λ is lacking. let same : j ≡ i = cc in subst (λ x. IsLookedAtNext p x (Look j next)) same (record { next = next; unknown = is; same = λ v part. refl })
      | Some a ↦ λ is lacking.
          let rest = looked_at p (next a) i (asks a is) lacking in
          record { next = rest.next; unknown = rest.unknown; same = λ v part. ap (λ x. run v (next x)) (part.node j a is) ∙ rest.same v part }
    ] refl e
looked_at p (Range j at count next) i (met, asks) e =
    elim (p.bytes j at count) as (λ o. p.bytes j at count ≡ o → ◌≡◌ {A = Found Operation} (elim o [ None ↦ Unknown (blocks_missing j at count) | Some a ↦ run_part p (next a) ]) (Unknown (missing.Node i)) → IsLookedAtNext p i (Range j at count next)) [
      | None ↦ λ is lacking. absurd (cc)
      | Some a ↦ λ is lacking.
          let rest = looked_at p (next a) i (asks a is) lacking in
          record { next = rest.next; unknown = rest.unknown; same = λ v part. ap (λ x. run v (next x)) (part.bytes j at count a is) ∙ rest.same v part }
    ] refl e

module _ (k : Knowledge) (g : Graph) (d : Descriptors) (fair : IsFair g d) (agrees : Agrees k g d) where
  abbrev p : Part
  p = part_of k

  abbrev KindKnown : ℕ → Type 0
  KindKnown i = Answers (p.is_dir i)

  -- the kind of what an entry names is known
  seen_kind : (at i : ℕ) (name : List ℕ) (copy : Option (Option NodeView)) (o : Option Seen) → k.copies at ≡ copy → option_map (λ c. option_map view_seen c) copy ≡ Some o → fin.get (entries_seen o) name ≡ Some i → KindKnown i
  seen_kind at i name None o is e there = absurd (cc)
  seen_kind at i name (Some None) o is e there =
      let same : None ≡ o = cc in
      absurd (let clash : None ≡ Some i = sym (fin.get-empty order name) ∙ ap (λ s. fin.get (entries_seen s) name) same ∙ there in cc)
  seen_kind at i name (Some (Some (FileView names size))) o is e there =
      let same : Some (File names size) ≡ o = cc in
      absurd (let clash : None ≡ Some i = sym (fin.get-empty order name) ∙ ap (λ s. fin.get (entries_seen s) name) same ∙ there in cc)
  seen_kind at i name (Some (Some (DirView names es))) o is e there =
      let same : Some (Dir (without_kinds es)) ≡ o = cc in
      let what = some_first (fin.get es name) i (sym (ap (λ s. fin.get (entries_seen s) name) same ∙ there) ∙ get_inodes es name) in
      told_answered k g d fair agrees i what.0 (entry_told k g d fair agrees at names i es name what.0 is what.1)

  named_kind : (at i : ℕ) (name : List ℕ) (entries : Entries ℕ) → run_part p (entries_at at) ≡ Known (Ok entries) → fin.get entries name ≡ Some i → KindKnown i × Any i
  named_kind at i name entries e there =
      let r = read_known p at entries_seen entries e in
      (seen_kind at i name (k.copies at) r.0 refl r.1 (ap (λ m. fin.get m name) r.2 ∙ there), tt)

  pub call_looks : (own : Own) (c : Call) (i : ℕ) → run_part p (decide own c) ≡ Unknown (missing.Node i) → IsLookedAtNext p i (decide own c)
  call_looks own c i e = looked_at p (decide own c) i (query_call p KindKnown Any AnyRange own ((Some true, refl), tt) named_kind (λ number x is. tt) (λ number x size at count is seen few most. tt) c) e
