-- An effect that is read is the effect that was written, and what was written is read again.
use Rattle.std.proofs.Common.{◌≡◌, ℕ, ◌+◌, ◌^◌, ◌<◌, Bool, true, false, cond, leb, eqb, List, [], ◌∷◌, ◌++◌, length, Some, None, refl, sym, ap, subst, ◌∙◌, append_assoc, arith, inl, inr, ◌&&◌}
use Rattle.std.proofs.lemmas.Bool.{leb-true, le-leb, eqb-true, and_from}
use Rattle.file_graph.specs.declared.effect.Kind.{Kind}
use Rattle.file_graph.specs.declared.effect.Kind.TheVariants as kind
use Rattle.file_graph.specs.declared.effect.Effect.{Effect}
use Rattle.file_graph.specs.declared.effect.Effect.TheVariants as effect
use Rattle.posix_calls.specs.Name.{is_name}
use Rattle.posix_calls.specs.declared.limits.TheConstants.{MAX_TRANSFER, MAX_INODE, MAX_NAMES, MAX_FILE}
use Rattle.log_record.specs.declared.format.TheConstants.{MAKE, ENTER, LEAVE, NAMES, SIZE, BYTES, DROP, SWAP}
use Rattle.log_record.specs.Grammar.{◌>>=◌, AreBytes, IsInode, FitsLimits, is_inode, is_write, fits, u32, u64, effect_bytes, byte_at, run_at, name_at, number_at, make_at, enter_at, leave_at, names_at, size_at, bytes_at, dropped_at, swap_at, fields_at, effect_at}
use Rattle.file_graph.specs.Kinds.{kind_byte, kind_field}
use Rattle.log_record.proofs.Fields.{AreBytes-rest, bind_some, chosen, test_some, some_is, Takes, Takes-then, Takes-cons, u32_takes, u64_takes, u32_again, u64_again, run_takes, run_again, byte_takes, kind_takes}

-- ---- the limits, as a test and as a fact

pub and_parts : (a b : Bool) → (a && b) ≡ true → (a ≡ true) × (b ≡ true)
and_parts true b e = (refl, e)
and_parts false b e = absurd cc

inode_from : (i : ℕ) → is_inode i ≡ true → IsInode i
inode_from i e =
    let p = and_parts (leb 1 i) (leb i MAX_INODE) e in
    (leb-true _ _ p.0, leb-true _ _ p.1)

inode_fits : (i : ℕ) → IsInode i → is_inode i ≡ true
inode_fits i h = and_from _ _ (le-leb _ _ h.0) (le-leb _ _ h.1)

pub Fits-from_fits : (e : Effect) → fits e ≡ true → FitsLimits e
Fits-from_fits (effect.Make i k) e = inode_from i e
Fits-from_fits (effect.Enter d i k name) e =
    let p = and_parts (is_inode d && is_inode i) (is_name name) e in
    let q = and_parts (is_inode d) (is_inode i) p.0 in
    (inode_from d q.0, inode_from i q.1, p.1)
Fits-from_fits (effect.Leave d name) e =
    let p = and_parts (is_inode d) (is_name name) e in
    (inode_from d p.0, p.1)
Fits-from_fits (effect.Names i n) e =
    let p = and_parts (is_inode i) (leb n MAX_NAMES) e in
    (inode_from i p.0, leb-true _ _ p.1)
Fits-from_fits (effect.Size i size) e =
    let p = and_parts (is_inode i) (leb size MAX_FILE) e in
    (inode_from i p.0, leb-true _ _ p.1)
Fits-from_fits (effect.Bytes i at new) e =
    let p = and_parts (is_inode i) (is_write at (length new)) e in
    let q = and_parts (leb 1 (length new) && leb (length new) MAX_TRANSFER) (leb (at + length new) MAX_FILE) p.1 in
    let r = and_parts (leb 1 (length new)) (leb (length new) MAX_TRANSFER) q.0 in
    (inode_from i p.0, leb-true _ _ r.0, leb-true _ _ r.1, leb-true _ _ q.1)
Fits-from_fits (effect.Drop i) e = inode_from i e
Fits-from_fits (effect.Swap d a f b) e =
    let p = and_parts (is_inode d && is_name a && is_inode f) (is_name b) e in
    let q = and_parts (is_inode d && is_name a) (is_inode f) p.0 in
    let r = and_parts (is_inode d) (is_name a) q.0 in
    (inode_from d r.0, r.1, inode_from f q.1, p.1)

pub fits-from_Fits : (e : Effect) → FitsLimits e → fits e ≡ true
fits-from_Fits (effect.Make i k) h = inode_fits i h
fits-from_Fits (effect.Enter d i k name) h = and_from _ _ (and_from _ _ (inode_fits d h.0) (inode_fits i h.1)) h.2
fits-from_Fits (effect.Leave d name) h = and_from _ _ (inode_fits d h.0) h.1
fits-from_Fits (effect.Names i n) h = and_from _ _ (inode_fits i h.0) (le-leb _ _ h.1)
fits-from_Fits (effect.Size i size) h = and_from _ _ (inode_fits i h.0) (le-leb _ _ h.1)
fits-from_Fits (effect.Bytes i at new) h = and_from _ _ (inode_fits i h.0) (and_from _ _ (and_from _ _ (le-leb _ _ h.1) (le-leb _ _ h.2)) (le-leb _ _ h.3))
fits-from_Fits (effect.Drop i) h = inode_fits i h
fits-from_Fits (effect.Swap d a e b) h = and_from _ _ (and_from _ _ (and_from _ _ (inode_fits d h.0) h.1) (inode_fits e h.2)) h.3

-- ---- what is read is spelled so

make_takes : (bytes : List ℕ) (x : Effect × List ℕ) → AreBytes bytes → make_at bytes ≡ Some x → Takes (MAKE ∷ bytes) (effect_bytes x.0) x.1
unfolding make_at
make_takes bytes x are e =
    let a = bind_some (number_at 4 bytes) (λ i. kind_field i.1 >>= λ k. Some (effect.Make i.0 k.0, k.1)) x e in
    let b = bind_some (kind_field a.0.1) (λ k. Some (effect.Make a.0.0 k.0, k.1)) x a.2 in
    let t0 = u32_takes bytes a.0 are a.1 in
    let t1 = kind_takes a.0.1 b.0 t0.0.behind b.1 in
    let fields = Takes-then bytes (u32 a.0.0) a.0.1 (kind_byte b.0.0 ∷ []) b.0.1 t0.0 t1 in
    let made : Effect × List ℕ = (effect.Make a.0.0 b.0.0, b.0.1) in
    subst (λ (y : Effect × List ℕ). Takes (MAKE ∷ bytes) (effect_bytes y.0) y.1) (some_is made x b.2) (Takes-cons MAKE _ _ _ fields)

enter_takes : (bytes : List ℕ) (x : Effect × List ℕ) → AreBytes bytes → enter_at bytes ≡ Some x → Takes (ENTER ∷ bytes) (effect_bytes x.0) x.1
unfolding enter_at
enter_takes bytes x are e =
    let a = bind_some (number_at 4 bytes) (λ d. number_at 4 d.1 >>= λ i. kind_field i.1 >>= λ k. byte_at k.1 >>= λ n. run_at n.0 n.1 >>= λ name. Some (effect.Enter d.0 i.0 k.0 name.0, name.1)) x e in
    let b = bind_some (number_at 4 a.0.1) (λ i. kind_field i.1 >>= λ k. byte_at k.1 >>= λ n. run_at n.0 n.1 >>= λ name. Some (effect.Enter a.0.0 i.0 k.0 name.0, name.1)) x a.2 in
    let c = bind_some (kind_field b.0.1) (λ k. byte_at k.1 >>= λ n. run_at n.0 n.1 >>= λ name. Some (effect.Enter a.0.0 b.0.0 k.0 name.0, name.1)) x b.2 in
    let d = bind_some (byte_at c.0.1) (λ n. run_at n.0 n.1 >>= λ name. Some (effect.Enter a.0.0 b.0.0 c.0.0 name.0, name.1)) x c.2 in
    let f = bind_some (run_at d.0.0 d.0.1) (λ name. Some (effect.Enter a.0.0 b.0.0 c.0.0 name.0, name.1)) x d.2 in
    let t0 = u32_takes bytes a.0 are a.1 in
    let t1 = u32_takes a.0.1 b.0 t0.0.behind b.1 in
    let t2 = kind_takes b.0.1 c.0 t1.0.behind c.1 in
    let t3 = byte_takes c.0.1 d.0 t2.behind d.1 in
    let t4 = run_takes d.0.0 d.0.1 f.0 t3.behind f.1 in
    let s3 = Takes-then c.0.1 (d.0.0 ∷ []) d.0.1 f.0.0 f.0.1 t3 t4.takes in
    let s2 = Takes-then b.0.1 (kind_byte c.0.0 ∷ []) c.0.1 (d.0.0 ∷ f.0.0) f.0.1 t2 s3 in
    let s1 = Takes-then a.0.1 (u32 b.0.0) b.0.1 (kind_byte c.0.0 ∷ d.0.0 ∷ f.0.0) f.0.1 t1.0 s2 in
    let s0 = Takes-then bytes (u32 a.0.0) a.0.1 (u32 b.0.0 ++ kind_byte c.0.0 ∷ d.0.0 ∷ f.0.0) f.0.1 t0.0 s1 in
    let fields = subst (λ (n : ℕ). Takes bytes (u32 a.0.0 ++ (u32 b.0.0 ++ kind_byte c.0.0 ∷ n ∷ f.0.0)) f.0.1) (sym t4.long) s0 in
    let made : Effect × List ℕ = (effect.Enter a.0.0 b.0.0 c.0.0 f.0.0, f.0.1) in
    subst (λ (y : Effect × List ℕ). Takes (ENTER ∷ bytes) (effect_bytes y.0) y.1) (some_is made x f.2) (Takes-cons ENTER _ _ _ fields)

leave_takes : (bytes : List ℕ) (x : Effect × List ℕ) → AreBytes bytes → leave_at bytes ≡ Some x → Takes (LEAVE ∷ bytes) (effect_bytes x.0) x.1
unfolding leave_at
leave_takes bytes x are e =
    let a = bind_some (number_at 4 bytes) (λ d. byte_at d.1 >>= λ n. run_at n.0 n.1 >>= λ name. Some (effect.Leave d.0 name.0, name.1)) x e in
    let b = bind_some (byte_at a.0.1) (λ n. run_at n.0 n.1 >>= λ name. Some (effect.Leave a.0.0 name.0, name.1)) x a.2 in
    let c = bind_some (run_at b.0.0 b.0.1) (λ name. Some (effect.Leave a.0.0 name.0, name.1)) x b.2 in
    let t0 = u32_takes bytes a.0 are a.1 in
    let t1 = byte_takes a.0.1 b.0 t0.0.behind b.1 in
    let t2 = run_takes b.0.0 b.0.1 c.0 t1.behind c.1 in
    let s1 = Takes-then a.0.1 (b.0.0 ∷ []) b.0.1 c.0.0 c.0.1 t1 t2.takes in
    let s0 = Takes-then bytes (u32 a.0.0) a.0.1 (b.0.0 ∷ c.0.0) c.0.1 t0.0 s1 in
    let fields = subst (λ (n : ℕ). Takes bytes (u32 a.0.0 ++ n ∷ c.0.0) c.0.1) (sym t2.long) s0 in
    let made : Effect × List ℕ = (effect.Leave a.0.0 c.0.0, c.0.1) in
    subst (λ (y : Effect × List ℕ). Takes (LEAVE ∷ bytes) (effect_bytes y.0) y.1) (some_is made x c.2) (Takes-cons LEAVE _ _ _ fields)

names_takes : (bytes : List ℕ) (x : Effect × List ℕ) → AreBytes bytes → names_at bytes ≡ Some x → Takes (NAMES ∷ bytes) (effect_bytes x.0) x.1
unfolding names_at
names_takes bytes x are e =
    let a = bind_some (number_at 4 bytes) (λ i. number_at 4 i.1 >>= λ n. Some (effect.Names i.0 n.0, n.1)) x e in
    let b = bind_some (number_at 4 a.0.1) (λ n. Some (effect.Names a.0.0 n.0, n.1)) x a.2 in
    let t0 = u32_takes bytes a.0 are a.1 in
    let t1 = u32_takes a.0.1 b.0 t0.0.behind b.1 in
    let fields = Takes-then bytes (u32 a.0.0) a.0.1 (u32 b.0.0) b.0.1 t0.0 t1.0 in
    let made : Effect × List ℕ = (effect.Names a.0.0 b.0.0, b.0.1) in
    subst (λ (y : Effect × List ℕ). Takes (NAMES ∷ bytes) (effect_bytes y.0) y.1) (some_is made x b.2) (Takes-cons NAMES _ _ _ fields)

size_takes : (bytes : List ℕ) (x : Effect × List ℕ) → AreBytes bytes → size_at bytes ≡ Some x → Takes (SIZE ∷ bytes) (effect_bytes x.0) x.1
unfolding size_at
size_takes bytes x are e =
    let a = bind_some (number_at 4 bytes) (λ i. number_at 8 i.1 >>= λ size. Some (effect.Size i.0 size.0, size.1)) x e in
    let b = bind_some (number_at 8 a.0.1) (λ size. Some (effect.Size a.0.0 size.0, size.1)) x a.2 in
    let t0 = u32_takes bytes a.0 are a.1 in
    let t1 = u64_takes a.0.1 b.0 t0.0.behind b.1 in
    let fields = Takes-then bytes (u32 a.0.0) a.0.1 (u64 b.0.0) b.0.1 t0.0 t1 in
    let made : Effect × List ℕ = (effect.Size a.0.0 b.0.0, b.0.1) in
    subst (λ (y : Effect × List ℕ). Takes (SIZE ∷ bytes) (effect_bytes y.0) y.1) (some_is made x b.2) (Takes-cons SIZE _ _ _ fields)

dropped_takes : (bytes : List ℕ) (x : Effect × List ℕ) → AreBytes bytes → dropped_at bytes ≡ Some x → Takes (DROP ∷ bytes) (effect_bytes x.0) x.1
unfolding dropped_at
dropped_takes bytes x are e =
    let a = bind_some (number_at 4 bytes) (λ i. Some (effect.Drop i.0, i.1)) x e in
    let t0 = u32_takes bytes a.0 are a.1 in
    let made : Effect × List ℕ = (effect.Drop a.0.0, a.0.1) in
    subst (λ (y : Effect × List ℕ). Takes (DROP ∷ bytes) (effect_bytes y.0) y.1) (some_is made x a.2) (Takes-cons DROP _ _ _ t0.0)

bytes_takes : (bytes : List ℕ) (x : Effect × List ℕ) → AreBytes bytes → bytes_at bytes ≡ Some x → Takes (BYTES ∷ bytes) (effect_bytes x.0) x.1
unfolding bytes_at
bytes_takes bytes x are e =
    let a = bind_some (number_at 4 bytes) (λ i. number_at 8 i.1 >>= λ at. number_at 4 at.1 >>= λ n. run_at n.0 n.1 >>= λ new. Some (effect.Bytes i.0 at.0 new.0, new.1)) x e in
    let b = bind_some (number_at 8 a.0.1) (λ at. number_at 4 at.1 >>= λ n. run_at n.0 n.1 >>= λ new. Some (effect.Bytes a.0.0 at.0 new.0, new.1)) x a.2 in
    let c = bind_some (number_at 4 b.0.1) (λ n. run_at n.0 n.1 >>= λ new. Some (effect.Bytes a.0.0 b.0.0 new.0, new.1)) x b.2 in
    let d = bind_some (run_at c.0.0 c.0.1) (λ new. Some (effect.Bytes a.0.0 b.0.0 new.0, new.1)) x c.2 in
    let t0 = u32_takes bytes a.0 are a.1 in
    let t1 = u64_takes a.0.1 b.0 t0.0.behind b.1 in
    let t2 = u32_takes b.0.1 c.0 t1.behind c.1 in
    let t3 = run_takes c.0.0 c.0.1 d.0 t2.0.behind d.1 in
    let s2 = Takes-then b.0.1 (u32 c.0.0) c.0.1 d.0.0 d.0.1 t2.0 t3.takes in
    let s1 = Takes-then a.0.1 (u64 b.0.0) b.0.1 (u32 c.0.0 ++ d.0.0) d.0.1 t1 s2 in
    let s0 = Takes-then bytes (u32 a.0.0) a.0.1 (u64 b.0.0 ++ (u32 c.0.0 ++ d.0.0)) d.0.1 t0.0 s1 in
    let fields = subst (λ (n : ℕ). Takes bytes (u32 a.0.0 ++ (u64 b.0.0 ++ (u32 n ++ d.0.0))) d.0.1) (sym t3.long) s0 in
    let made : Effect × List ℕ = (effect.Bytes a.0.0 b.0.0 d.0.0, d.0.1) in
    subst (λ (y : Effect × List ℕ). Takes (BYTES ∷ bytes) (effect_bytes y.0) y.1) (some_is made x d.2) (Takes-cons BYTES _ _ _ fields)

-- a name behind its length
name_takes : (bytes : List ℕ) (x : List ℕ × List ℕ) → AreBytes bytes → name_at bytes ≡ Some x → Takes bytes (length x.0 ∷ x.0) x.1
name_takes bytes x are e =
    let a = bind_some (byte_at bytes) (λ n. run_at n.0 n.1) x e in
    let t0 = byte_takes bytes a.0 are a.1 in
    let t1 = run_takes a.0.0 a.0.1 x t0.behind a.2 in
    subst (λ (n : ℕ). Takes bytes (n ∷ x.0) x.1) (sym t1.long) (Takes-then bytes (a.0.0 ∷ []) a.0.1 x.0 x.1 t0 t1.takes)

swap_takes : (bytes : List ℕ) (x : Effect × List ℕ) → AreBytes bytes → swap_at bytes ≡ Some x → Takes (SWAP ∷ bytes) (effect_bytes x.0) x.1
unfolding swap_at
swap_takes bytes x are e =
    let a = bind_some (number_at 4 bytes) (λ d. name_at d.1 >>= λ name. number_at 4 name.1 >>= λ other. name_at other.1 >>= λ behind. Some (effect.Swap d.0 name.0 other.0 behind.0, behind.1)) x e in
    let b = bind_some (name_at a.0.1) (λ name. number_at 4 name.1 >>= λ other. name_at other.1 >>= λ behind. Some (effect.Swap a.0.0 name.0 other.0 behind.0, behind.1)) x a.2 in
    let c = bind_some (number_at 4 b.0.1) (λ other. name_at other.1 >>= λ behind. Some (effect.Swap a.0.0 b.0.0 other.0 behind.0, behind.1)) x b.2 in
    let d = bind_some (name_at c.0.1) (λ behind. Some (effect.Swap a.0.0 b.0.0 c.0.0 behind.0, behind.1)) x c.2 in
    let t0 = u32_takes bytes a.0 are a.1 in
    let t1 = name_takes a.0.1 b.0 t0.0.behind b.1 in
    let t2 = u32_takes b.0.1 c.0 t1.behind c.1 in
    let t3 = name_takes c.0.1 d.0 t2.0.behind d.1 in
    let s2 = Takes-then b.0.1 (u32 c.0.0) c.0.1 (length d.0.0 ∷ d.0.0) d.0.1 t2.0 t3 in
    let s1 = Takes-then a.0.1 (length b.0.0 ∷ b.0.0) b.0.1 (u32 c.0.0 ++ length d.0.0 ∷ d.0.0) d.0.1 t1 s2 in
    let fields = Takes-then bytes (u32 a.0.0) a.0.1 (length b.0.0 ∷ (b.0.0 ++ (u32 c.0.0 ++ length d.0.0 ∷ d.0.0))) d.0.1 t0.0 s1 in
    let made : Effect × List ℕ = (effect.Swap a.0.0 b.0.0 c.0.0 d.0.0, d.0.1) in
    subst (λ (y : Effect × List ℕ). Takes (SWAP ∷ bytes) (effect_bytes y.0) y.1) (some_is made x d.2) (Takes-cons SWAP _ _ _ fields)

-- the effect behind one tag, where the tag is that
at_tag : (tag n : ℕ) (bytes : List ℕ) (x : Effect × List ℕ) → eqb tag n ≡ true → Takes (n ∷ bytes) (effect_bytes x.0) x.1 → Takes (tag ∷ bytes) (effect_bytes x.0) x.1
at_tag tag n bytes x e takes = subst (λ (t : ℕ). Takes (t ∷ bytes) (effect_bytes x.0) x.1) (sym (eqb-true tag n e)) takes

-- the tags from SIZE on
later_fields_take : (tag : ℕ) (bytes : List ℕ) (x : Effect × List ℕ) → AreBytes (tag ∷ bytes)
    → cond (eqb tag SIZE) (size_at bytes) (cond (eqb tag BYTES) (bytes_at bytes) (cond (eqb tag DROP) (dropped_at bytes) (cond (eqb tag SWAP) (swap_at bytes) None))) ≡ Some x → Takes (tag ∷ bytes) (effect_bytes x.0) x.1
later_fields_take tag bytes x are e =
    let behind = AreBytes-rest tag bytes are in
    elim (chosen (eqb tag SIZE) (size_at bytes) _ (Some x) e) [
      | inl w ↦ at_tag tag SIZE bytes x w.0 (size_takes bytes x behind w.1)
      | inr v ↦ elim (chosen (eqb tag BYTES) (bytes_at bytes) _ (Some x) v.1) [
        | inl w ↦ at_tag tag BYTES bytes x w.0 (bytes_takes bytes x behind w.1)
        | inr u ↦ elim (chosen (eqb tag DROP) (dropped_at bytes) _ (Some x) u.1) [
          | inl w ↦ at_tag tag DROP bytes x w.0 (dropped_takes bytes x behind w.1)
          | inr t ↦ elim (chosen (eqb tag SWAP) (swap_at bytes) None (Some x) t.1) [
            | inl w ↦ at_tag tag SWAP bytes x w.0 (swap_takes bytes x behind w.1)
            | inr s ↦ absurd (cc s.1)
          ]
        ]
      ]
    ]

fields_take : (bytes : List ℕ) (x : Effect × List ℕ) → AreBytes bytes → fields_at bytes ≡ Some x → Takes bytes (effect_bytes x.0) x.1
unfolding fields_at
fields_take [] x are e = absurd cc
fields_take (tag ∷ bytes) x are e =
    let behind = AreBytes-rest tag bytes are in
    elim (chosen (eqb tag MAKE) (make_at bytes) _ (Some x) e) [
      | inl w ↦ at_tag tag MAKE bytes x w.0 (make_takes bytes x behind w.1)
      | inr v ↦ elim (chosen (eqb tag ENTER) (enter_at bytes) _ (Some x) v.1) [
        | inl w ↦ at_tag tag ENTER bytes x w.0 (enter_takes bytes x behind w.1)
        | inr u ↦ elim (chosen (eqb tag LEAVE) (leave_at bytes) _ (Some x) u.1) [
          | inl w ↦ at_tag tag LEAVE bytes x w.0 (leave_takes bytes x behind w.1)
          | inr t ↦ elim (chosen (eqb tag NAMES) (names_at bytes) _ (Some x) t.1) [
            | inl w ↦ at_tag tag NAMES bytes x w.0 (names_takes bytes x behind w.1)
            | inr s ↦ later_fields_take tag bytes x are s.1
          ]
        ]
      ]
    ]

pub effect_takes : (bytes : List ℕ) (x : Effect × List ℕ) → AreBytes bytes → effect_at bytes ≡ Some x → Takes bytes (effect_bytes x.0) x.1 × FitsLimits x.0
unfolding effect_at
effect_takes bytes x are e =
    let a = bind_some (fields_at bytes) (λ y. cond (fits y.0) (Some y) None) x e in
    let g = test_some (fits a.0.0) a.0 x a.2 in
    subst (λ (y : Effect × List ℕ). Takes bytes (effect_bytes y.0) y.1 × FitsLimits y.0) g.1 (fields_take bytes a.0 are a.1, Fits-from_fits a.0.0 g.0)

-- ---- what is spelled is read again

make_again : (i : ℕ) (k : Kind) (rest : List ℕ) → i < 2 ^ 32 → make_at (u32 i ++ kind_byte k ∷ rest) ≡ Some (effect.Make i k, rest)
unfolding make_at
make_again i kind.File rest small = rw (u32_again i (1 ∷ rest) small) refl
make_again i kind.Directory rest small = rw (u32_again i (2 ∷ rest) small) refl

enter_again : (d i : ℕ) (k : Kind) (name rest : List ℕ) → d < 2 ^ 32 → i < 2 ^ 32 → enter_at (u32 d ++ (u32 i ++ kind_byte k ∷ length name ∷ (name ++ rest))) ≡ Some (effect.Enter d i k name, rest)
unfolding enter_at
enter_again d i kind.File name rest small few = rw (u32_again d (u32 i ++ 1 ∷ length name ∷ (name ++ rest)) small, u32_again i (1 ∷ length name ∷ (name ++ rest)) few, run_again name rest) refl
enter_again d i kind.Directory name rest small few = rw (u32_again d (u32 i ++ 2 ∷ length name ∷ (name ++ rest)) small, u32_again i (2 ∷ length name ∷ (name ++ rest)) few, run_again name rest) refl

leave_again : (d : ℕ) (name rest : List ℕ) → d < 2 ^ 32 → leave_at (u32 d ++ length name ∷ (name ++ rest)) ≡ Some (effect.Leave d name, rest)
unfolding leave_at
leave_again d name rest small = rw (u32_again d (length name ∷ (name ++ rest)) small, run_again name rest) refl

names_again : (i n : ℕ) (rest : List ℕ) → i < 2 ^ 32 → n < 2 ^ 32 → names_at (u32 i ++ (u32 n ++ rest)) ≡ Some (effect.Names i n, rest)
unfolding names_at
names_again i n rest small few = rw (u32_again i (u32 n ++ rest) small, u32_again n rest few) refl

size_again : (i size : ℕ) (rest : List ℕ) → i < 2 ^ 32 → size < 2 ^ 64 → size_at (u32 i ++ (u64 size ++ rest)) ≡ Some (effect.Size i size, rest)
unfolding size_at
size_again i size rest small few = rw (u32_again i (u64 size ++ rest) small, u64_again size rest few) refl

dropped_again : (i : ℕ) (rest : List ℕ) → i < 2 ^ 32 → dropped_at (u32 i ++ rest) ≡ Some (effect.Drop i, rest)
unfolding dropped_at
dropped_again i rest small = rw (u32_again i rest small) refl

bytes_again : (i at : ℕ) (new rest : List ℕ) → i < 2 ^ 32 → at < 2 ^ 64 → length new < 2 ^ 32 → bytes_at (u32 i ++ (u64 at ++ (u32 (length new) ++ (new ++ rest)))) ≡ Some (effect.Bytes i at new, rest)
unfolding bytes_at
bytes_again i at new rest small low few = rw (u32_again i (u64 at ++ (u32 (length new) ++ (new ++ rest))) small, u64_again at (u32 (length new) ++ (new ++ rest)) low, u32_again (length new) (new ++ rest) few, run_again new rest) refl

swap_again : (d : ℕ) (a : List ℕ) (e : ℕ) (b rest : List ℕ) → d < 2 ^ 32 → e < 2 ^ 32 → swap_at (u32 d ++ length a ∷ (a ++ (u32 e ++ length b ∷ (b ++ rest)))) ≡ Some (effect.Swap d a e b, rest)
unfolding swap_at
swap_again d a e b rest small few =
    rw (u32_again d (length a ∷ (a ++ (u32 e ++ length b ∷ (b ++ rest)))) small, run_again a (u32 e ++ length b ∷ (b ++ rest)), u32_again e (length b ∷ (b ++ rest)) few, run_again b rest) refl

fields_again : (e : Effect) (rest : List ℕ) → FitsLimits e → fields_at (effect_bytes e ++ rest) ≡ Some (e, rest)
unfolding fields_at
fields_again (effect.Make i k) rest h = ap make_at (append_assoc (u32 i) (kind_byte k ∷ []) rest) ∙ make_again i k rest (omega (arith, h.1))
fields_again (effect.Enter d i k name) rest h =
    ap enter_at (append_assoc (u32 d) (u32 i ++ kind_byte k ∷ length name ∷ name) rest ∙ ap (λ (t : List ℕ). u32 d ++ t) (append_assoc (u32 i) (kind_byte k ∷ length name ∷ name) rest))
    ∙ enter_again d i k name rest (omega (arith, h.0.1)) (omega (arith, h.1.1))
fields_again (effect.Leave d name) rest h = ap leave_at (append_assoc (u32 d) (length name ∷ name) rest) ∙ leave_again d name rest (omega (arith, h.0.1))
fields_again (effect.Names i n) rest h = ap names_at (append_assoc (u32 i) (u32 n) rest) ∙ names_again i n rest (omega (arith, h.0.1)) (omega (arith, h.1))
fields_again (effect.Size i size) rest h = ap size_at (append_assoc (u32 i) (u64 size) rest) ∙ size_again i size rest (omega (arith, h.0.1)) (omega (arith, h.1))
fields_again (effect.Drop i) rest h = dropped_again i rest (omega (arith, h.1))
fields_again (effect.Swap d a e b) rest h =
    ap swap_at (append_assoc (u32 d) (length a ∷ (a ++ (u32 e ++ length b ∷ b))) rest ∙ ap (λ (t : List ℕ). u32 d ++ length a ∷ t) (append_assoc a (u32 e ++ length b ∷ b) rest ∙ ap (λ (t : List ℕ). a ++ t) (append_assoc (u32 e) (length b ∷ b) rest)))
    ∙ swap_again d a e b rest (omega (arith, h.0.1)) (omega (arith, h.2.1))
fields_again (effect.Bytes i at new) rest h =
    ap bytes_at (append_assoc (u32 i) (u64 at ++ (u32 (length new) ++ new)) rest ∙ ap (λ (t : List ℕ). u32 i ++ t) (append_assoc (u64 at) (u32 (length new) ++ new) rest ∙ ap (λ (t : List ℕ). u64 at ++ t) (append_assoc (u32 (length new)) new rest)))
    ∙ bytes_again i at new rest (omega (arith, h.0.1)) (omega (arith, h.3)) (omega (arith, h.2))

pub effect_again : (e : Effect) (rest : List ℕ) → FitsLimits e → effect_at (effect_bytes e ++ rest) ≡ Some (e, rest)
unfolding effect_at
effect_again e rest h = rw (fields_again e rest h, fits-from_Fits e h) refl
