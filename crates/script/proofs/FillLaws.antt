-- How the words of fills come off from the left, and the media's fills one after the other.
use Rattle.std.proofs.Common.{◌≡◌, ap, sym, ℕ, suc, ◌+◌, ◌-◌, ◌==◌, ◌<◌, ◌≤◌, true, false, Option, None, Some, is_some, List, [], ◌∷◌, ◌++◌, append_assoc, append-nil, refl, arith, option_map}
use Rattle.tier_device.specs.declared.fill.Fill.{Fill}
use Rattle.tier_device.specs.declared.fill.Fill.TheVariants as fills
use Rattle.script.specs.Script.{◌>>=◌}
use Rattle.script.specs.Fills.{medium_with_fill, media_with_fills, fills_of, one_fill, medium_fill, fills_from, all_fills}

-- ---- the words of one medium

-- the one fill of a medium where one may have been found, and others stand behind it
abbrev pub with_found : Option Fill → List Fill → Option Fill
with_found None fs = one_fill fs
with_found (Some f) [] = Some f
with_found (Some f) (g ∷ gs) = None

-- the fill of a medium of which one may have been found, by the words that are left
unfoldable pub fill_behind : Option Fill → ℕ → List (List ℕ) → Option Fill
fill_behind found m words = media_with_fills words >>= λ ns. with_found found (fills_of m ns)

-- the fill that was found, or new
abbrev pub or_new : Option Fill → Fill
or_new None = fills.New
or_new (Some f) = f

pub fill_behind-start : (m : ℕ) (words : List (List ℕ)) → fill_behind None m words ≡ medium_fill words m
unfolding fill_behind
fill_behind-start m words = refl

pub fill_behind-end : (found : Option Fill) (m : ℕ) → fill_behind found m [] ≡ Some (or_new found)
unfolding fill_behind
fill_behind-end None m = refl
fill_behind-end (Some f) m = refl

-- a word that can't be read
pub fill_behind-bad : (found : Option Fill) (m : ℕ) (w : List ℕ) (ws : List (List ℕ)) → medium_with_fill w ≡ None → fill_behind found m (w ∷ ws) ≡ None
unfolding fill_behind
fill_behind-bad found m w ws none = rw none refl

-- a word of another medium
pub fill_behind-other : (found : Option Fill) (m : ℕ) (w : List ℕ) (ws : List (List ℕ)) (n : ℕ × Fill) → medium_with_fill w ≡ Some n → (n.0 == m) ≡ false → fill_behind found m (w ∷ ws) ≡ fill_behind found m ws
unfolding fill_behind
fill_behind-other found m w ws n is other = rw is (over (media_with_fills ws))
  where
    over : (o : Option (List (ℕ × Fill))) → (option_map (λ ns. n ∷ ns) o >>= λ ns. with_found found (fills_of m ns)) ≡ (o >>= λ ns. with_found found (fills_of m ns))
    over None = refl
    over (Some ns) = rw other refl

-- the medium's first word
pub fill_behind-first : (found : Option Fill) (m : ℕ) (w : List ℕ) (ws : List (List ℕ)) (n : ℕ × Fill) → is_some found ≡ false → medium_with_fill w ≡ Some n → (n.0 == m) ≡ true → fill_behind found m (w ∷ ws) ≡ fill_behind (Some n.1) m ws
unfolding fill_behind
fill_behind-first (Some f) m w ws n none is same = absurd cc
fill_behind-first None m w ws n none is same = rw is (over (media_with_fills ws))
  where
    alone : (fs : List Fill) → one_fill (n.1 ∷ fs) ≡ with_found (Some n.1) fs
    alone [] = refl
    alone (f ∷ fs) = refl

    over : (o : Option (List (ℕ × Fill))) → (option_map (λ ns. n ∷ ns) o >>= λ ns. with_found None (fills_of m ns)) ≡ (o >>= λ ns. with_found (Some n.1) (fills_of m ns))
    over None = refl
    over (Some ns) = rw same (alone (fills_of m ns))

-- and a further one
pub fill_behind-twice : (found : Option Fill) (m : ℕ) (w : List ℕ) (ws : List (List ℕ)) (n : ℕ × Fill) → is_some found ≡ true → medium_with_fill w ≡ Some n → (n.0 == m) ≡ true → fill_behind found m (w ∷ ws) ≡ None
unfolding fill_behind
fill_behind-twice None m w ws n some is same = absurd cc
fill_behind-twice (Some f) m w ws n some is same = rw is (over (media_with_fills ws))
  where
    over : (o : Option (List (ℕ × Fill))) → (option_map (λ ns. n ∷ ns) o >>= λ ns. with_found (Some f) (fills_of m ns)) ≡ None
    over None = refl
    over (Some ns) = rw same refl

-- ---- one medium after the other

-- fills before others
abbrev pub with_front : List Fill → Option (List Fill) → Option (List Fill)
with_front front others = option_map (λ fs. front ++ fs) others

pub all_fills-start : (words : List (List ℕ)) → with_front [] (fills_from words 0 9) ≡ all_fills words
unfolding all_fills
all_fills-start words = same (fills_from words 0 9)
  where
    same : (o : Option (List Fill)) → with_front [] o ≡ o
    same None = refl
    same (Some fs) = refl

-- a medium's fill goes over to the front
pub fills_from-step : (words : List (List ℕ)) (front : List Fill) (count m : ℕ) (f : Fill) → m < count → medium_fill words m ≡ Some f → with_front front (fills_from words m (count - m)) ≡ with_front (front ++ f ∷ []) (fills_from words (m + 1) (count - (m + 1)))
fills_from-step words front count m f more is =
    let k : count - m ≡ suc (count - (m + 1)) = omega arith in
    rw (k, is) (over (fills_from words (m + 1) (count - (m + 1))))
  where
    over : (o : Option (List Fill)) → with_front front (option_map (λ fs. f ∷ fs) o) ≡ with_front (front ++ f ∷ []) o
    over None = refl
    over (Some fs) = ap (λ (gs : List Fill). Some gs) (sym (append_assoc front (f ∷ []) fs))

-- a medium that has none
pub fills_from-none : (words : List (List ℕ)) (front : List Fill) (count m : ℕ) → m < count → medium_fill words m ≡ None → with_front front (fills_from words m (count - m)) ≡ None
fills_from-none words front count m more none =
    let k : count - m ≡ suc (count - (m + 1)) = omega arith in
    rw (k, none) refl

-- no more media
pub fills_from-end : (words : List (List ℕ)) (front : List Fill) (count m : ℕ) → count ≤ m → with_front front (fills_from words m (count - m)) ≡ Some front
fills_from-end words front count m all =
    let k : count - m ≡ 0 = omega arith in
    rw k (ap (λ (gs : List Fill). Some gs) (append-nil front))

-- where no medium is named, all have new
pub all_fills-none : all_fills [] ≡ Some (fills.New ∷ fills.New ∷ fills.New ∷ fills.New ∷ fills.New ∷ fills.New ∷ fills.New ∷ fills.New ∷ fills.New ∷ [])
unfolding all_fills
all_fills-none = refl
