-- Paths, step by step from a directory up to the root.
use Rattle.std.proofs.Common.{◌≡◌, ◌≢◌, ℕ, zero, suc, ◌-◌, ◌++◌, [], ◌∷◌, List, Option, Some, None, refl, arith, sub-one, true, false, append_assoc}
use Rattle.std.specs.Option.{option_map}
use Rattle.std.proofs.lemmas.Bool.{ne_eqb}
use Rattle.std.proofs.lemmas.Option.{same_Some, none-some}
use Rattle.posix_calls.specs.Name.{is_name}
use Rattle.mount_nodes.specs.declared.node.NodeName.{NodeName}
use Rattle.mount_nodes.specs.declared.nodes.Nodes.{Nodes}
use Rattle.mount_nodes.specs.Paths.{first_name, folder_path, name_path, path_below, path_of}

pub no_folder : (n : ℕ) (nodes : Nodes) (id : ℕ) → n ≡ 0 → folder_path n nodes id ≡ None
unfolding folder_path
no_folder zero nodes id h = refl
no_folder (suc n) nodes id h = absurd (omega arith)

pub root_folder : (n : ℕ) (nodes : Nodes) (id : ℕ) → n ≢ 0 → id ≡ 1 → folder_path n nodes id ≡ Some []
unfolding folder_path
root_folder zero nodes id h is = absurd (h refl)
root_folder (suc n) nodes id h is = rw is refl

pub unnamed_folder : (n : ℕ) (nodes : Nodes) (id : ℕ) → id ≢ 1 → first_name nodes id ≡ None → folder_path n nodes id ≡ None
unfolding folder_path
unnamed_folder zero nodes id other unnamed = refl
unnamed_folder (suc n) nodes id other unnamed = rw (ne_eqb id 1 other, unnamed) refl

pub named_folder : (n : ℕ) (nodes : Nodes) (id : ℕ) (known : NodeName) → n ≢ 0 → id ≢ 1 → first_name nodes id ≡ Some known → folder_path n nodes id ≡ option_map (λ path. path ++ 47 ∷ known.name) (folder_path (n - 1) nodes known.folder)
unfolding folder_path
named_folder zero nodes id known h other named = absurd (h refl)
named_folder (suc n) nodes id known h other named = rw (ne_eqb id 1 other, named, sub-one) refl

-- a name more, behind what stood there and a directory's path
pub named_behind : (old mid new name : List ℕ) (o : Option (List ℕ)) → option_map (λ p. old ++ p) o ≡ Some mid → new ≡ mid ++ 47 ∷ name → option_map (λ p. old ++ p) (option_map (λ p. p ++ 47 ∷ name) o) ≡ Some new
named_behind old mid new name None h e = absurd (none-some mid h)
named_behind old mid new name (Some p) h e =
    let m : old ++ p ≡ mid = same_Some _ _ h in
    rw (e, ← m, append_assoc) refl

-- the same behind nothing
pub named_alone : (old mid new name : List ℕ) (o : Option (List ℕ)) → old ≡ [] → option_map (λ p. old ++ p) o ≡ Some mid → new ≡ mid ++ 47 ∷ name → option_map (λ p. p ++ 47 ∷ name) o ≡ Some new
named_alone old mid new name None empty h e = absurd (none-some mid h)
named_alone old mid new name (Some p) empty h e =
    let m : old ++ p ≡ mid = same_Some _ _ h in
    rw (e, ← m, empty) refl

pub below_folder : (nodes : Nodes) (folder : ℕ) (old mid new name : List ℕ) → old ≡ [] → option_map (λ p. old ++ p) (folder_path 1024 nodes folder) ≡ Some mid → new ≡ mid ++ 47 ∷ name → path_below nodes folder name ≡ Some new
unfolding path_below
below_folder nodes folder old mid new name empty h e = named_alone old mid new name (folder_path 1024 nodes folder) empty h e

pub below_nothing : (nodes : Nodes) (folder : ℕ) (name : List ℕ) → folder_path 1024 nodes folder ≡ None → path_below nodes folder name ≡ None
unfolding path_below
below_nothing nodes folder name none = rw none refl

pub root_path_of : (nodes : Nodes) (id : ℕ) → id ≡ 1 → path_of nodes id ≡ Some (47 ∷ [])
unfolding path_of
root_path_of nodes id is = rw is refl

pub unnamed_path : (nodes : Nodes) (id : ℕ) → id ≢ 1 → first_name nodes id ≡ None → path_of nodes id ≡ None
unfolding path_of
unnamed_path nodes id other unnamed = rw (ne_eqb id 1 other, unnamed) refl

pub named_path : (nodes : Nodes) (id : ℕ) (known : NodeName) → id ≢ 1 → first_name nodes id ≡ Some known → path_of nodes id ≡ path_below nodes known.folder known.name
unfolding path_of
named_path nodes id known other named = rw (ne_eqb id 1 other, named) refl

pub name_has_path : (nodes : Nodes) (folder : ℕ) (name copy path : List ℕ) → is_name name ≡ true → copy ≡ name → path_below nodes folder copy ≡ Some path → name_path nodes folder name ≡ Some path
name_has_path nodes folder name copy path valid same below = rw (valid, ← same) below

-- no name, or one below what has no path, has none
pub no_name : (nodes : Nodes) (folder : ℕ) (name : List ℕ) → is_name name ≡ false → name_path nodes folder name ≡ None
no_name nodes folder name bad = rw bad refl

pub name_has_no_path : (nodes : Nodes) (folder : ℕ) (name copy : List ℕ) → is_name name ≡ true → copy ≡ name → path_below nodes folder copy ≡ None → name_path nodes folder name ≡ None
name_has_no_path nodes folder name copy valid same none = rw (valid, ← same) none
