-- More and fewer blocks of a file that a client has a copy of: what it knows agrees with the whole, also where the file is gone.
use Rattle.std.proofs.Common.{◌≡◌, ◌≢◌, ◌⊎◌, inl, inr, ℕ, ◌-◌, ◌*◌, ◌==◌, min, cond, List, length, drop, Option, Some, None, refl, ap, sym, ◌∙◌}
use Rattle.std.specs.Prelude.{option_map, unwrap_or}
use Rattle.std.proofs.lemmas.Bool.Decides.{eqb_tells}
use Rattle.std.proofs.lemmas.List.{length-drop, length-take}
use Rattle.posix_calls.specs.Tree.{Descriptors}
use Rattle.event_steps.specs.call_effects.Blocks.{block_at, block_of}
use Rattle.event_steps.specs.call_effects.Knowledge.{Agrees, IsGone, IsPutBack, Knowledge}
use Rattle.event_steps.specs.call_effects.NodeView.{FileView, NodeView, view_at, view_of_node}
use Rattle.event_steps.specs.file_graph.Graph.{DirBody, FileBody, Graph, Node, file_bytes}
use Rattle.event_steps.specs.client_view.BlockPut.{IsBlockLong}
use Rattle.system_laws.proofs.JoinedBlocks.{whole_block, whole_file, whole_long}

-- a view of a file is one of its bytes
pub record IsFileOf (o : Option Node) (names size : ℕ) : Type 0 where
  pub bytes : List ℕ
  pub node : o ≡ Some (record { names = names; body = FileBody bytes })
  pub long : length bytes ≡ size

file_seen : (o : Option Node) (names size : ℕ) → option_map view_of_node o ≡ Some (FileView names size) → IsFileOf o names size
file_seen None names size e = absurd cc
file_seen (Some n) names size e = elim (n.body) as (λ y. n.body ≡ y → option_map view_of_node (Some (record { names = n.names; body = y })) ≡ Some (FileView names size) → IsFileOf (Some n) names size) [
  | FileBody bytes ↦ λ at e.
      let same : n.names ≡ names = cc in
      let many : length bytes ≡ size = cc in
      record { bytes = bytes; node = λ t. Some (record { names = same t; body = at t }); long = many }
  | DirBody es ↦ λ at e. absurd cc
] refl e

-- the bytes of a block that was put are those of the file, where it stands
abbrev pub IsBlockOfFile : Graph → ℕ → ℕ → List ℕ → Type 0
IsBlockOfFile g i b bytes = (content : List ℕ) → file_bytes (g i) ≡ Some content → bytes ≡ block_of b content

-- where it has blocks it had them, or they are of this file, as long as its copy of the file tells
abbrev pub HasMoreOf : Knowledge → Graph → ℕ → (ℕ → ℕ → Option (List ℕ)) → Type 0
HasMoreOf k g i blocks = (j b : ℕ) (bytes : List ℕ) → blocks j b ≡ Some bytes → (k.blocks j b ≡ Some bytes) ⊎ ((j ≡ i) × IsBlockLong k i b bytes × IsBlockOfFile g i b bytes)

module _ (k : Knowledge) (g : Graph) (held : Descriptors) (agrees : Agrees k g held) (i : ℕ) (blocks : ℕ → ℕ → Option (List ℕ)) (more : HasMoreOf k g i blocks) where
  abbrev knows : Knowledge
  knows = record k { blocks = blocks }

  -- the copy of the file, as the whole has it with what is gone put back
  its_file : (b : ℕ) (bytes : List ℕ) → (long : IsBlockLong k i b bytes) → IsFileOf (agrees.back i) long.names long.size
  its_file b bytes long = file_seen (agrees.back i) long.names long.size (agrees.copies i (Some (FileView long.names long.size)) long.copy)

  -- ---- it stands

  block_stands : agrees.back i ≡ g i → (j b : ℕ) (bytes : List ℕ) → blocks j b ≡ Some bytes → block_at agrees.back j b ≡ Some bytes
  block_stands stands j b bytes is = elim (more j b bytes is) [
    | inl was ↦ agrees.blocks j b bytes was
    | inr put ↦
        let file = its_file b bytes put.1 in
        let there : file_bytes (g i) ≡ Some file.bytes = ap file_bytes (sym stands ∙ file.node) in
        ap (λ n. block_at agrees.back n b) put.0 ∙ ap (λ o. option_map (block_of b) (file_bytes o)) stands ∙ ap (option_map (block_of b)) there ∙ ap (λ xs. Some xs) (sym (put.2 file.bytes there))
  ]

  agrees_standing : agrees.back i ≡ g i → Agrees knows g held
  agrees_standing stands = record {
    client = agrees.client;
    own = agrees.own;
    back = agrees.back;
    put_back = agrees.put_back;
    copies = agrees.copies;
    blocks = block_stands stands;
    granted = agrees.granted;
  }

  -- ---- it is gone: another one is put back, which has these blocks

  module _ (gone : IsGone (g i) (agrees.back i)) where
    chosen : ℕ → List ℕ
    chosen b = unwrap_or (blocks i b) (block_of b gone.bytes)

    old_long : (b : ℕ) → length (block_of b gone.bytes) ≡ min 4096 (length gone.bytes - 4096 * b)
    old_long b = length-take 4096 (drop (4096 * b) gone.bytes) ∙ ap (min 4096) (length-drop (4096 * b) gone.bytes)

    was_there : (b : ℕ) (bytes : List ℕ) → k.blocks i b ≡ Some bytes → bytes ≡ block_of b gone.bytes
    was_there b bytes was = let both : Some bytes ≡ Some (block_of b gone.bytes) = sym (agrees.blocks i b bytes was) ∙ ap (λ o. option_map (block_of b) (file_bytes o)) gone.file in cc

    as_many : (b : ℕ) (bytes : List ℕ) → (long : IsBlockLong k i b bytes) → long.size ≡ length gone.bytes
    as_many b bytes long =
        let file = its_file b bytes long in
        let both : Some file.bytes ≡ Some gone.bytes = ap file_bytes (sym file.node ∙ gone.file) in
        let same : file.bytes ≡ gone.bytes = cc in
        sym file.long ∙ ap length same

    block_long : (b : ℕ) (o : Option (List ℕ)) → blocks i b ≡ o → length (unwrap_or o (block_of b gone.bytes)) ≡ min 4096 (length gone.bytes - 4096 * b)
    block_long b None is = old_long b
    block_long b (Some bytes) is = elim (more i b bytes is) [
      | inl was ↦ ap length (was_there b bytes was) ∙ old_long b
      | inr put ↦ put.1.long ∙ ap (λ n. min 4096 (n - 4096 * b)) (as_many b bytes put.1)
    ]

    chosen_long : (b : ℕ) → length (chosen b) ≡ min 4096 (length gone.bytes - 4096 * b)
    unfolding chosen
    chosen_long b = block_long b (blocks i b) refl

    abbrev put_bytes : List ℕ
    put_bytes = whole_file (length gone.bytes) chosen chosen_long

    abbrev put_node : Option Node
    put_node = Some (record { names = 0; body = FileBody put_bytes })

    abbrev other : Graph
    other j = cond (j == i) put_node (agrees.back j)

    here : (j : ℕ) → j ≡ i → other j ≡ put_node
    here j same = elim (eqb_tells j i) [ inl is ↦ ap (λ t. cond t put_node (agrees.back j)) is.0 | inr off ↦ absurd (off.1 same) ]

    elsewhere : (j : ℕ) → j ≢ i → other j ≡ agrees.back j
    elsewhere j apart = elim (eqb_tells j i) [ inl is ↦ absurd (apart is.1) | inr off ↦ ap (λ t. cond t put_node (agrees.back j)) off.0 ]

    put_back_other : IsPutBack g other
    put_back_other j = elim (eqb_tells j i) [
      | inl same ↦ inr (record { nothing = ap g same.1 ∙ gone.nothing; bytes = put_bytes; file = here j same.1 })
      | inr off ↦ elim (agrees.put_back j) [
        | inl stands ↦ inl (elsewhere j off.1 ∙ stands)
        | inr lost ↦ inr (record { nothing = lost.nothing; bytes = lost.bytes; file = elsewhere j off.1 ∙ lost.file })
      ]
    ]

    same_view : option_map view_of_node put_node ≡ view_at agrees.back i
    same_view = ap (λ n. Some (FileView 0 n)) (whole_long (length gone.bytes) chosen chosen_long) ∙ sym (ap (option_map view_of_node) gone.file)

    copies_other : (j : ℕ) (copy : Option NodeView) → k.copies j ≡ Some copy → view_at other j ≡ copy
    copies_other j copy is = elim (eqb_tells j i) [
      | inl same ↦ ap (option_map view_of_node) (here j same.1) ∙ same_view ∙ ap (view_at agrees.back) (sym same.1) ∙ agrees.copies j copy is
      | inr off ↦ ap (option_map view_of_node) (elsewhere j off.1) ∙ agrees.copies j copy is
    ]

    chosen_is : (b : ℕ) (bytes : List ℕ) → blocks i b ≡ Some bytes → chosen b ≡ bytes
    unfolding chosen
    chosen_is b bytes is = ap (λ o. unwrap_or o (block_of b gone.bytes)) is

    blocks_other : (j b : ℕ) (bytes : List ℕ) → blocks j b ≡ Some bytes → block_at other j b ≡ Some bytes
    blocks_other j b bytes is = elim (eqb_tells j i) [
      | inl same ↦
          ap (λ o. option_map (block_of b) (file_bytes o)) (here j same.1)
          ∙ ap (λ xs. Some xs) (whole_block (length gone.bytes) chosen chosen_long b ∙ chosen_is b bytes (ap (λ n. blocks n b) (sym same.1) ∙ is))
      | inr off ↦ elim (more j b bytes is) [
        | inl was ↦ ap (λ o. option_map (block_of b) (file_bytes o)) (elsewhere j off.1) ∙ agrees.blocks j b bytes was
        | inr put ↦ absurd (off.1 put.0)
      ]
    ]

    agrees_gone : Agrees knows g held
    agrees_gone = record {
      client = agrees.client;
      own = agrees.own;
      back = other;
      put_back = put_back_other;
      copies = copies_other;
      blocks = blocks_other;
      granted = agrees.granted;
    }

  pub more_agrees : Agrees knows g held
  more_agrees = elim (agrees.put_back i) [ inl stands ↦ agrees_standing stands | inr gone ↦ agrees_gone gone ]
