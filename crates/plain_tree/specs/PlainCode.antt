-- How the state of a plain tree is stored.
use Rattle.std.specs.Prelude.{ℕ, Bool, List, Option, refl}
use Rattle.std.specs.Coded.{Coded, code_by, coded×, coded_ℕ, coded_bool, coded_list, coded_option}
use Rattle.posix_calls.specs.Tree.{Node}
use Rattle.plain_tree.specs.Codes.{plain_node_code}
use Rattle.plain_tree.specs.Plain.{Stored}
use Rattle.posix_calls.specs.declared.descriptor.Descriptor.{Descriptor}

-- a descriptor is stored as its parts
abbrev pub descriptor_code : Coded Descriptor
descriptor_code = code_by (ℕ × (Bool × Bool)) (coded× coded_ℕ (coded× coded_bool coded_bool)) (λ d. (d.inode, (d.reads, d.writes))) (λ p. record { inode = p.0; reads = p.1.0; writes = p.1.1 }) (λ _. refl)

-- a state is stored as its nodes and its rows
abbrev pub stored_code : Coded Stored
stored_code =
    code_by (List (Option Node) × List (List (Option Descriptor))) (coded× (coded_list (coded_option plain_node_code)) (coded_list (coded_list (coded_option descriptor_code)))) (λ s. (s.nodes, s.rows)) (λ p. record { nodes = p.0; rows = p.1 }) (λ _. refl)
