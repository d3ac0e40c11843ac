-- No call meets a file that has no name and that nobody has open: over the stored graph it comes to the same.
use Rattle.std.proofs.Common.{◌≡◌, ℕ, List, refl, Some, None, Option, Ok, cond, ap, sym, ◌∙◌, subst, true, false, Bool}
use Rattle.std.specs.Prelude.{option_map, ◌&&◌, not, ◌==◌}
use Rattle.std.specs.FinMap as fin
use Rattle.posix_calls.specs.Content.{Entries, range}
use Rattle.posix_calls.specs.Tree.{Descriptors, is_open}
use Rattle.posix_calls.specs.declared.descriptor.Descriptor.{Descriptor}
use Rattle.posix_calls.specs.declared.call.Call.{Call}
use Rattle.posix_calls.specs.declared.operation.Missing.{Missing}
use Rattle.posix_calls.specs.declared.operation.Missing.TheVariants as missing
use Rattle.posix_calls.specs.Query.{Query, Gives, Refuses, IsDir, Look, Range, View, run}
use Rattle.posix_calls.specs.Part.{Part, Found, Known, Unknown, blocks_missing, IsPart, run_part, whole_part}
use Rattle.posix_calls.specs.Walk.{entries_seen, entries_at}
use Rattle.posix_calls.specs.Decide.{decide}
use Rattle.posix_calls.proofs.Counts.{order}
use Rattle.log_record.specs.file_graph.Graph.{Graph, Node, FileBody, DirBody}
use Rattle.log_record.specs.file_graph.declared.effect.Kind.{Kind}
use Rattle.log_record.specs.file_graph.declared.effect.Kind.TheVariants as kind
use Rattle.call_effects.specs.Wholes.{keep, reachable_graph, kind_of, graph_view, node_is_dir, node_seen, node_bytes, without_kinds}
use Rattle.call_effects.specs.Knowledge.{IsPutBack, stored_view}
use Rattle.call_effects.specs.Fits.{IsUsedFile}
use Rattle.call_effects.proofs.KnownAsking.{QueryAll, query_call, read_known}
use Rattle.call_effects.proofs.Inodes.{get_inodes}
use Rattle.call_effects.proofs.Changes.{IsFair, file, dir}
use Rattle.call_effects.proofs.Facts.{has_dir, has_file, used_by_name, some_first}
use Rattle.call_effects.proofs.Calls.{open_file}
use Rattle.call_effects.proofs.PutBack.{stands_back}

-- ---- two that answer alike of all that is asked

record IsAlike (v w : View) (i : ℕ) : Type 0 where
  is_dir : v.is_dir i ≡ w.is_dir i
  node : v.node i ≡ w.node i
  bytes : (at count : ℕ) → v.bytes i at count ≡ w.bytes i at count

abbrev AnswersAlike : View → View → (ℕ → Type 0) → Type 0
AnswersAlike v w Passes = (i : ℕ) → Passes i → IsAlike v w i

-- of what is asked, whatever the question is
abbrev pub AsksOf : {A : Type 0} → Part → (ℕ → Type 0) → Query A → Type 0
AsksOf p Passes q = QueryAll p Passes Passes (λ i at count. Passes i) q

-- come to the same
run_alike : {A : Type 0} (v w : View) (Passes : ℕ → Type 0) (q : Query A) → AnswersAlike v w Passes → AsksOf (whole_part v) Passes q → run v q ≡ run w q
unfolding QueryAll run
run_alike v w Passes (Gives x) same asks = refl
run_alike v w Passes (Refuses e) same asks = refl
run_alike v w Passes (IsDir i next) same (met, rest) = run_alike v w Passes (next (v.is_dir i)) same (rest (v.is_dir i) refl) ∙ ap (λ o. run w (next o)) (same i met).is_dir
run_alike v w Passes (Look i next) same (met, rest) = run_alike v w Passes (next (v.node i)) same (rest (v.node i) refl) ∙ ap (λ o. run w (next o)) (same i met).node
run_alike v w Passes (Range i at count next) same (met, rest) = run_alike v w Passes (next (v.bytes i at count)) same (rest (v.bytes i at count) refl) ∙ ap (λ bytes. run w (next bytes)) ((same i met).bytes at count)

-- the inode of what is missing passes
abbrev pub MissingOf : (ℕ → Type 0) → Missing → Type 0
MissingOf Passes (missing.Node i) = Passes i
MissingOf Passes (missing.Blocks i first count) = Passes i

-- and what a part of the other lacks is of what is asked of
missing_asked : {A : Type 0} (p : Part) (v w : View) (Passes : ℕ → Type 0) (q : Query A) (what : Missing) → AnswersAlike v w Passes → IsPart p w → AsksOf (whole_part v) Passes q → run_part p q ≡ Unknown what → MissingOf Passes what
unfolding QueryAll run_part
missing_asked p v w Passes (Gives x) what same part asks e = absurd (cc)
missing_asked p v w Passes (Refuses x) what same part asks e = absurd (cc)
missing_asked {A = A} p v w Passes (IsDir j next) what same part (met, rest) e =
    elim (p.is_dir j) as (λ o. p.is_dir j ≡ o → ◌≡◌ {A = Found A} (elim o [ None ↦ Unknown (missing.Node j) | Some a ↦ run_part p (next a) ]) (Unknown what) → MissingOf Passes what) [
      | None ↦ λ is lacking. let here : missing.Node j ≡ what = cc in subst (MissingOf Passes) here met
      | Some a ↦ λ is lacking. missing_asked p v w Passes (next a) what same part (rest a (ap (λ o. Some o) ((same j met).is_dir ∙ part.is_dir j a is))) lacking
    ] refl e
missing_asked {A = A} p v w Passes (Look j next) what same part (met, rest) e =
    elim (p.node j) as (λ o. p.node j ≡ o → ◌≡◌ {A = Found A} (elim o [ None ↦ Unknown (missing.Node j) | Some a ↦ run_part p (next a) ]) (Unknown what) → MissingOf Passes what) [
      | None ↦ λ is lacking. let here : missing.Node j ≡ what = cc in subst (MissingOf Passes) here met
      | Some a ↦ λ is lacking. missing_asked p v w Passes (next a) what same part (rest a (ap (λ o. Some o) ((same j met).node ∙ part.node j a is))) lacking
    ] refl e
missing_asked {A = A} p v w Passes (Range j at count next) what same part (met, rest) e =
    elim (p.bytes j at count) as (λ o. p.bytes j at count ≡ o → ◌≡◌ {A = Found A} (elim o [ None ↦ Unknown (blocks_missing j at count) | Some a ↦ run_part p (next a) ]) (Unknown what) → MissingOf Passes what) [
      | None ↦ λ is lacking. let here : blocks_missing j at count ≡ what = cc in subst (MissingOf Passes) here met
      | Some a ↦ λ is lacking. missing_asked p v w Passes (next a) what same part (rest a (ap (λ o. Some o) ((same j met).bytes at count ∙ part.bytes j at count a is))) lacking
    ] refl e

-- ---- what is kept

-- what has an entry is a directory
record HasEntry (o : Option Node) (name : List ℕ) (i : ℕ) : Type 0 where
  names : ℕ
  entries : Entries (ℕ × Kind)
  is : o ≡ dir names entries
  there : fin.get (without_kinds entries) name ≡ Some i

no_entry : {A : Type 0} (name : List ℕ) (i : ℕ) → fin.get {R = order} fin.empty name ≡ Some i → A
no_entry name i e = absurd (let clash : None ≡ Some i = sym (fin.get-empty order name) ∙ e in cc)

no_entry_kept : {A : Type 0} (c : Bool) (n names : ℕ) (bytes : List ℕ) (name : List ℕ) (i : ℕ) → fin.get (entries_seen (option_map node_seen (cond c None (file names bytes)))) name ≡ Some i → A
no_entry_kept true n names bytes name i e = no_entry name i e
no_entry_kept false n names bytes name i e = no_entry name i e

entry_kept : (b : Bool) (o : Option Node) (name : List ℕ) (i : ℕ) → fin.get (entries_seen (option_map node_seen (keep b o))) name ≡ Some i → HasEntry o name i
entry_kept b None name i e = no_entry name i e
entry_kept b (Some n) name i e =
    elim (n.body) as (λ y. fin.get (entries_seen (option_map node_seen (keep b (Some (record { names = n.names; body = y }))))) name ≡ Some i → n.body ≡ y → HasEntry (Some n) name i) [
      | FileBody bytes ↦ λ there is. no_entry_kept (n.names == 0 && not b) n.names n.names bytes name i there
      | DirBody es ↦ λ there is. record { names = n.names; entries = es; is = ap (λ y. Some (record { names = n.names; body = y })) is; there = there }
    ] e refl

module _ (g : Graph) (d : Descriptors) (fair : IsFair g d) where
  -- a node stands there, and is no file that is gone
  pub record Stays (i : ℕ) : Type 0 where
    pub node : Node
    pub stored : g i ≡ Some node
    pub kept : reachable_graph g d i ≡ Some node

  abbrev v : View
  v = graph_view g d

  abbrev pub QueryKept : {A : Type 0} → Query A → Type 0
  QueryKept q = AsksOf (whole_part v) Stays q

  pub dir_stays : (i : ℕ) → kind_of (g i) ≡ Some kind.Directory → Stays i
  dir_stays i is = let f = has_dir g i is in record { node = record { names = f.names; body = DirBody f.entries }; stored = f.is; kept = ap (keep (is_open d i)) f.is }

  pub used_stays : (i : ℕ) → IsUsedFile g d i → Stays i
  used_stays i f = record { node = record { names = f.names; body = FileBody f.bytes }; stored = f.is; kept = ap (keep (is_open d i)) f.is ∙ ap (λ b. cond b None (file f.names f.bytes)) f.used }

  -- what an entry names
  entry_stays : (at n i : ℕ) (es : Entries (ℕ × Kind)) (name : List ℕ) (k : Kind) → g at ≡ dir n es → fin.get es name ≡ Some (i, k) → Stays i
  entry_stays at n i es name kind.Directory is there = dir_stays i (fair.typed.kinds at n es name (i, kind.Directory) is there)
  entry_stays at n i es name kind.File is there =
      let f = has_file g i (fair.typed.kinds at n es name (i, kind.File) is there) in
      used_stays i (record { names = f.names; bytes = f.bytes; is = f.is; used = used_by_name g d (record { parent = at; name = name }) i f.names f.bytes kind.File fair (record { names = n; entries = es; is = is; there = there }) f.is })

  named_stays : (at i : ℕ) (name : List ℕ) (entries : Entries ℕ) → run_part (whole_part v) (entries_at at) ≡ Known (Ok entries) → fin.get entries name ≡ Some i → Stays i × Stays i
  named_stays at i name entries e there =
      let r = read_known (whole_part v) at entries_seen entries e in
      let seen : v.node at ≡ r.0 = let some : Some (v.node at) ≡ Some r.0 = r.1 in cc in
      let f = entry_kept (is_open d at) (g at) name i (ap (λ s. fin.get (entries_seen s) name) seen ∙ ap (λ m. fin.get m name) r.2 ∙ there) in
      let k = some_first (fin.get f.entries name) i (sym f.there ∙ get_inodes f.entries name) in
      let stays = entry_stays at f.names i f.entries name k.0 f.is k.1 in
      (stays, stays)

  -- what is open
  open_stays : (client number : ℕ) (x : Descriptor) → d client number ≡ Some x → Stays x.inode
  open_stays client number x is = used_stays x.inode (open_file g d client number x x.inode fair is refl)

  pub call_asks_kept : (client : ℕ) (c : Call) → QueryKept (decide (d client) c)
  call_asks_kept client c = let root = dir_stays 1 fair.typed.root in query_call (whole_part v) Stays Stays (λ i at count. Stays i) (d client) (root, root) named_stays (open_stays client) (λ number x size at count is seen few most. open_stays client number x is) c

  -- where files are put back that are gone, what is kept is the same
  module _ (back : Graph) (put_back : IsPutBack g back) where
    seen_alike : AnswersAlike v (stored_view back) Stays
    seen_alike i stays =
        let same = stays.kept ∙ sym (stands_back g back put_back i stays.node stays.stored) in
        record { is_dir = ap (option_map node_is_dir) same; node = ap (option_map node_seen) same; bytes = λ at count. ap (λ o. range at count (node_bytes o)) same }

    -- questions that meet nothing that is gone come to the same over the stored graph
    pub stored_alike : {A : Type 0} (q : Query A) → QueryKept q → run v q ≡ run (stored_view back) q
    stored_alike q asks = run_alike v (stored_view back) Stays q seen_alike asks

    -- and a part of it lacks only what is kept
    pub missing_kept : {A : Type 0} (p : Part) (q : Query A) (what : Missing) → IsPart p (stored_view back) → QueryKept q → run_part p q ≡ Unknown what → MissingOf Stays what
    missing_kept p q what part asks e = missing_asked p v (stored_view back) Stays q what seen_alike part asks e

pub no_call_meets : (g back : Graph) (d : Descriptors) (client : ℕ) (c : Call) → IsFair g d → IsPutBack g back → run (graph_view g d) (decide (d client) c) ≡ run (stored_view back) (decide (d client) c)
no_call_meets g back d client c fair put_back = stored_alike g d fair back put_back (decide (d client) c) (call_asks_kept g d fair client c)
