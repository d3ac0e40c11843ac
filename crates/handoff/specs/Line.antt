-- The line of all that was ever put: who put what at which number, and who took it.
use Rattle.std.specs.Prelude.{◌≡◌, ℕ, zero, suc, ◌<◌, ◌≤◌, List, [], ◌∷◌, length, drop}
use Rattle.seat_book.specs.Book.{HoldsPart, IsBooked}
use Rattle.handoff.specs.declared.hand.Hand.{Hand}
use Rattle.handoff.specs.Hands.{place_of}

module _ {T : Type 0} where
  -- the item at that number of a line
  abbrev pub At : List T → ℕ → T → Type 0
  At [] k x = ⊥
  At (y ∷ ys) zero x = y ≡ x
  At (y ∷ ys) (suc k) x = At ys k x

  -- the number of each of these is below n; and they fall
  abbrev pub AreBelow : ℕ → List (ℕ × T) → Type 0
  AreBelow n xs = (x : ℕ × T) → HoldsPart xs x → x.0 < n

  abbrev pub Fall : List (ℕ × T) → Type 0
  Fall [] = Unit {0}
  Fall (x ∷ xs) = AreBelow x.0 xs × Fall xs

  -- There is one line. Each number of it was put by one place, once, and each of its first ones was taken by one place, once; the queue holds the others
  pub record Line (items : List T) (whole : ℕ → Hand T) : Type 0 where
    pub all : List T
    pub gone : ℕ
    pub within : gone ≤ length all
    pub left : items ≡ drop gone all
    pub put_by : ℕ → ℕ
    pub taken_by : ℕ → ℕ
    pub put : (c : ℕ) (x : ℕ × T) → HoldsPart (whole c).put x → At all x.0 x.1 × (put_by x.0 ≡ c)
    pub was_put : (k : ℕ) (x : T) → At all k x → HoldsPart (whole (put_by k)).put (k, x)
    pub taken : (c : ℕ) (x : ℕ × T) → HoldsPart (whole c).taken x → (x.0 < gone) × At all x.0 x.1 × (taken_by x.0 ≡ c)
    pub was_taken : (k : ℕ) (x : T) → k < gone → At all k x → HoldsPart (whole (taken_by k)).taken (k, x)
    pub falls : (c : ℕ) → Fall (whole c).put × Fall (whole c).taken
    pub few_put : (k : ℕ) → k < length all → put_by k < 17
    pub few_taken : (k : ℕ) → k < gone → taken_by k < 17

  -- the rule of the queue
  abbrev pub IsInLine : List T → List (List (Hand T)) → Type 0
  IsInLine items views = IsBooked place_of Line items views

  -- the item was put by the pass's own place, at a number above all that it had put
  abbrev pub HasPut : List (Hand T) → T → List (Hand T) → Type 0
  HasPut [] x w = ⊥
  HasPut (h ∷ hs) x w = (k : ℕ) × AreBelow k h.put × (w ≡ record h { put = (k, x) ∷ h.put } ∷ hs)

  -- it was taken by it, at a number above all that it had taken
  abbrev pub HasTaken : List (Hand T) → T → List (Hand T) → Type 0
  HasTaken [] x w = ⊥
  HasTaken (h ∷ hs) x w = (k : ℕ) × AreBelow k h.taken × (w ≡ record h { taken = (k, x) ∷ h.taken } ∷ hs)

  -- what one of these hands put, or took
  abbrev pub IsPutBy : List (Hand T) → ℕ → T → Type 0
  IsPutBy hs k x = (h : Hand T) × HoldsPart hs h × HoldsPart h.put (k, x)

  abbrev pub IsTakenBy : List (Hand T) → ℕ → T → Type 0
  IsTakenBy hs k x = (h : Hand T) × HoldsPart hs h × HoldsPart h.taken (k, x)

  -- there is one of each place
  abbrev pub HasAll : List (Hand T) → Type 0
  HasAll hs = (c : ℕ) → c < 17 → (h : Hand T) × HoldsPart hs h × (h.place ≡ c)

  -- the pass carries a hand of its own, of one of the places
  abbrev pub HasHand : List (Hand T) → Type 0
  HasHand [] = ⊥
  HasHand (h ∷ hs) = h.place < 17

  -- Of these hands: what one put, at a number, one of them took, at the same number, or the queue still holds it; what one took one put; and no number was put twice or taken twice
  pub record EndsLine (hs : List (Hand T)) (items : List T) : Type 0 where
    pub all : List T
    pub gone : ℕ
    pub left : items ≡ drop gone all
    pub put : (k : ℕ) (x : T) → IsPutBy hs k x → At all k x
    pub taken : (k : ℕ) (x : T) → IsTakenBy hs k x → (k < gone) × At all k x
    pub put_once : (h j : Hand T) (k : ℕ) (x y : T) → HoldsPart hs h → HoldsPart hs j → HoldsPart h.put (k, x) → HoldsPart j.put (k, y) → (h ≡ j) × (x ≡ y)
    pub taken_once : (h j : Hand T) (k : ℕ) (x y : T) → HoldsPart hs h → HoldsPart hs j → HoldsPart h.taken (k, x) → HoldsPart j.taken (k, y) → (h ≡ j) × (x ≡ y)
    pub falls : (h : Hand T) → HoldsPart hs h → Fall h.put × Fall h.taken
    -- where all places are among them, nothing was lost
    pub was_put : (k : ℕ) (x : T) → At all k x → HasAll hs → IsPutBy hs k x
    pub was_taken : (k : ℕ) (x : T) → k < gone → At all k x → HasAll hs → IsTakenBy hs k x
