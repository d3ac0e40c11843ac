-- Open directories, and their entries.
use Rattle.std.proofs.Common.{◌≡◌, ◌<◌, ◌≤◌, ◌+◌, ◌-◌, ◌++◌, ◌∙◌, ℕ, zero, suc, List, [], ◌∷◌, Option, Some, None, Ok, Err, refl, sym, ap, inl, inr, arith, codes, drop, get_or, length, min, set, slice_get, take}
use Rattle.std.proofs.lemmas.Bool.{cases_lt}
use Rattle.std.proofs.lemmas.List.{get_or-drop, get_or-set_other, get_or_append_left, get_or_past, get_or_push, length-drop, length_push, take_min, take_more}
use Rattle.std.proofs.lemmas.Option.{get_or_from_slice_get, none-some, same_Some, slice_get_read, slice_get_within}
use Rattle.posix_calls.specs.declared.call.Call.TheVariants as call
use Rattle.fuse_wire.specs.declared.errno.Refusal.{Refusal}
use Rattle.fuse_server.specs.declared.listings.Listing.{Listing}
use Rattle.mount_nodes.specs.declared.nodes.Nodes.{Nodes}
use Rattle.mount_nodes.specs.declared.tree.Tree.{Ghosts}
use Rattle.mount_nodes.specs.Calls.{Answers, MayAsk, listed_of}
use Rattle.fuse_server.specs.Listings.{DirEntry, Lists, OpensDir, OpensListing, SameBeside, all_entries, folder_above, folder_entry, listing_at, listing_of, named_entries, named_entry}
use Rattle.mount_nodes.specs.Paths.{path_of}
use Rattle.mount_nodes.specs.Refusals.{IsMemory}
use Rattle.mount_nodes.proofs.CallLemmas.{asked_then}

-- ---- which directories are open

-- nothing is open behind the last place
pub listing_past : (listings : List (Option Listing)) (handle : ℕ) → length listings ≤ handle → listing_at listings handle ≡ None
listing_past listings handle past = get_or_past listings handle None past

pub same_beside_set : (listings : List (Option Listing)) (handle : ℕ) (listing : Option Listing) → SameBeside listings (set listings handle listing) handle
same_beside_set listings handle listing = λ other is. get_or-set_other listings handle other listing None is

pub listing_push : (listings : List (Option Listing)) (handle : ℕ) (listing : Option Listing) → handle ≡ length listings → listing_at (listings ++ listing ∷ []) handle ≡ listing
listing_push listings handle listing last = get_or_push listings listing None handle (sym last)

pub same_beside_push : (listings : List (Option Listing)) (handle : ℕ) (listing : Option Listing) → handle ≡ length listings → SameBeside listings (listings ++ listing ∷ []) handle
same_beside_push listings handle listing last = λ other is. elim (cases_lt other (length listings)) [
  | inl inside ↦ get_or_append_left listings (listing ∷ []) None other inside
  | inr past ↦
      let long : length (listings ++ listing ∷ []) ≤ other = rw length_push (omega (arith, past, is, last)) in
      get_or_past (listings ++ listing ∷ []) other None long ∙ sym (get_or_past listings other None past)
]

module _ {S : Type 0} (tree : Ghosts S) (nodes : Nodes) (id : ℕ) (path : List ℕ) (names : List (List ℕ)) (old new : List (Option Listing)) (s t : S) where
  -- a directory was listed, and is open
  pub dir_opens : (handle : ℕ) → path_of nodes id ≡ Some path → MayAsk tree (call.List path) listed_of Answers (Ok names) s t → OpensListing old new handle (listing_of id names) → OpensDir tree nodes id old new (Ok handle) s t
  dir_opens handle there listed opens =
      (inr (path, there, asked_then tree (call.List path) listed_of (Lists id old new) names (Ok handle) s t t listed (refl, opens)), tt)

  -- it was, and memory is wanting
  pub dir_opens_not : (e : Refusal) → path_of nodes id ≡ Some path → MayAsk tree (call.List path) listed_of Answers (Ok names) s t → IsMemory e → new ≡ old → OpensDir tree nodes id old new (Err e) s t
  dir_opens_not e there listed memory same =
      (inr (path, there, asked_then tree (call.List path) listed_of (Lists id old new) names (Err e) s t t listed (refl, memory)), same)

-- ---- entries

length_named : (nodes : Nodes) (folder place : ℕ) (names : List (List ℕ)) → length (named_entries nodes folder place names) ≡ length names
length_named nodes folder place [] = refl
length_named nodes folder place (name ∷ names) = ap suc (length_named nodes folder (place + 1) names)

length_all : (nodes : Nodes) (listing : Listing) → length (all_entries nodes listing) ≡ length listing.names + 2
length_all nodes listing =
    let names = length_named nodes listing.folder 2 listing.names in
    omega (arith, names)

named_at : (nodes : Nodes) (folder place : ℕ) (names : List (List ℕ)) (k : ℕ) (name : List ℕ) → slice_get names k ≡ Some name → slice_get (named_entries nodes folder place names) k ≡ Some (named_entry nodes folder (place + k + 1) name)
named_at nodes folder place [] k name here = absurd (none-some name here)
named_at nodes folder place (first ∷ names) zero name here =
    let next : place + 1 ≡ place + zero + 1 = omega arith in
    ap (λ (n : ℕ). Some (named_entry nodes folder n first)) next ∙ ap (λ (x : List ℕ). Some (named_entry nodes folder (place + zero + 1) x)) (same_Some first name here)
named_at nodes folder place (first ∷ names) (suc k) name here =
    let next : place + 1 + k + 1 ≡ place + suc k + 1 = omega arith in
    named_at nodes folder (place + 1) names k name here ∙ ap (λ (n : ℕ). Some (named_entry nodes folder n name)) next

-- the entry at place 0 is that of the directory itself
pub entry_itself : (nodes : Nodes) (listing : Listing) (at next : ℕ) (e : DirEntry) → at ≡ 0 → next ≡ at + 1 → e ≡ folder_entry listing.folder next (codes ".") → slice_get (all_entries nodes listing) at ≡ Some e
entry_itself nodes listing at next e first behind is =
    let one : next ≡ 1 = omega (arith, first, behind) in
    ap (slice_get (all_entries nodes listing)) first ∙ ap Some (sym (is ∙ ap (λ (n : ℕ). folder_entry listing.folder n (codes ".")) one))

-- the one at place 1 is that of the directory above it
pub entry_above : (nodes : Nodes) (listing : Listing) (at next above : ℕ) (e : DirEntry) → at ≡ 1 → next ≡ at + 1 → above ≡ folder_above nodes listing.folder → e ≡ folder_entry above next (codes "..") → slice_get (all_entries nodes listing) at ≡ Some e
entry_above nodes listing at next above e second behind up is =
    let two : next ≡ 2 = omega (arith, second, behind) in
    ap (slice_get (all_entries nodes listing)) second ∙ ap Some (sym (is ∙ (ap (λ (n : ℕ). folder_entry above n (codes "..")) two ∙ ap (λ (n : ℕ). folder_entry n 2 (codes "..")) up)))

-- behind them stand the names
pub entry_of_name : (nodes : Nodes) (listing : Listing) (names : List (List ℕ)) (at next place : ℕ) (name : List ℕ) (e : DirEntry) → names ≡ listing.names → at ≡ place + 2 → next ≡ at + 1 → place < length names → name ≡ get_or names place name → e ≡ named_entry nodes listing.folder next name → slice_get (all_entries nodes listing) at ≡ Some e
entry_of_name nodes listing names at next place name e same behind_two behind inside item is =
    let here : slice_get listing.names place ≡ Some name = ap (λ (ns : List (List ℕ)). slice_get ns place) (sym same) ∙ slice_get_read names (length names) place name refl inside item in
    let at_place : at ≡ suc (suc place) = omega (arith, behind_two) in
    let behind_name : 2 + place + 1 ≡ next = omega (arith, behind_two, behind) in
    ap (slice_get (all_entries nodes listing)) at_place
    ∙ (named_at nodes listing.folder 2 listing.names place name here ∙ (ap (λ (n : ℕ). Some (named_entry nodes listing.folder n name)) behind_name ∙ ap Some (sym is)))

-- an entry more
pub entries_more : (all said : List DirEntry) (at place : ℕ) (e : DirEntry) → said ≡ take place (drop at all) → slice_get all (at + place) ≡ Some e → said ++ e ∷ [] ≡ take (place + 1) (drop at all)
entries_more all said at place e so_far here =
    let within : at + place < length all = slice_get_within all (at + place) e here in
    let long : place < length (drop at all) = rw length-drop (omega (arith, within)) in
    let item : get_or (drop at all) place e ≡ e = get_or-drop at all place e ∙ get_or_from_slice_get all (at + place) e e here in
    ap (λ (xs : List DirEntry). xs ++ e ∷ []) so_far
    ∙ (ap (λ (x : DirEntry). take place (drop at all) ++ x ∷ []) (sym item) ∙ sym (take_more (drop at all) place e long))

-- as many as there are, or as were asked for
pub entries_all : (nodes : Nodes) (listing : Listing) (said : List DirEntry) (at most place : ℕ) → said ≡ take place (drop at (all_entries nodes listing)) → place ≡ min (length listing.names + 2 - at) most → said ≡ take most (drop at (all_entries nodes listing))
entries_all nodes listing said at most place so_far few =
    let all = all_entries nodes listing in
    let long : length (drop at all) ≡ length listing.names + 2 - at = length-drop at all ∙ ap (λ (n : ℕ). n - at) (length_all nodes listing) in
    let same : place ≡ min most (length (drop at all)) = omega (arith, few, long) in
    so_far ∙ (ap (λ (n : ℕ). take n (drop at all)) same ∙ take_min most (drop at all))
