-- The automaton answers alike in states that are the same at the declared variables.
use Rattle.std.proofs.Common.{◌≡◌, ℕ, suc, pred, ◌<◌, Bool, true, false, cond, not, ◌&&◌, ◌||◌, T, eqb, ltb, List, [], ◌∷◌, refl, ap, ◌∙◌, subst, ap₂, ltb→lt, rules}
use mathlib.Core.Option.{Option, none, some}
use lib.Bits.{bit_or}
use Rattle.codec.specs.Expressions.{Expr}
use Rattle.script.specs.Code.{Code}
use Rattle.codec.specs.Expressions.Op.{constant, variable, sample, held, binary, unary}
use Rattle.model.specs.Automaton.{Q, Pool, Input, Output, apart, without, meets, all_bottom, either_defines, either_needs, carries, with_w, with_V, entering, leaving, merged, react, extract, update}
use Rattle.model.specs.Automaton.Input.{at_branch, at_merge, at_sync, at_skip, at_assign, at_output}
use Rattle.model.specs.Automaton.Output.{ok, no, default}
use Rattle.model.specs.Follows.{Same}
use Rattle.model.specs.Together.{note, go_on, hears}
use Rattle.model.proofs.Published.Names.{reads}
use Rattle.model.proofs.Tests.{and_left, and_right}

abbrev pub fit : ℕ → Input → Bool
fit n (at_branch m e pe pu) = reads n e
fit n (at_merge pe pu) = true
fit n (at_sync m e) = reads n e
fit n at_skip = true
fit n (at_assign x e) = reads n e
fit n (at_output e) = reads n e

abbrev pub all_fit : ℕ → List Input → Bool
all_fit n [] = true
all_fit n (x ∷ xs) = fit n x && all_fit n xs

pub same_trans : {n : ℕ} {a b c : Pool} → Same n a b → Same n b c → Same n a c
same_trans p q = record {
  V = λ x l. p.V x l ∙ q.V x l;
  secret = λ t. p.secret t ∙ q.secret t;
  W = λ x. p.W x ∙ q.W x;
  L = p.L ∙ q.L;
  w = λ i. p.w i ∙ q.w i;
}

module _ (n : ℕ) where
  pub record Like (a b : Q) : Type 0 where
    pub V : (x : ℕ) → x < n → a.V x ≡ b.V x
    pub secret : (t : ℕ) → a.secret t ≡ b.secret t
    pub W : (x : ℕ) → a.W x ≡ b.W x
    pub L : a.L ≡ b.L
    pub w : a.w ≡ b.w

  abbrev pub Both : Option (Output × Q) → Option (Output × Q) → Type 0
  Both none none = Unit {0}
  Both none (some b) = ⊥
  Both (some a) none = ⊥
  Both (some a) (some b) = (a.0 ≡ b.0) × Like a.1 b.1

  abbrev pub BothHeard : Option (List Output × Pool) → Option (List Output × Pool) → Type 0
  BothHeard none none = Unit {0}
  BothHeard none (some b) = ⊥
  BothHeard (some a) none = ⊥
  BothHeard (some a) (some b) = (a.0 ≡ b.0) × Same n a.1 b.1

  meets_alike : (va vb sa sb : ℕ → Bool) → ((x : ℕ) → x < n → va x ≡ vb x) → ((t : ℕ) → sa t ≡ sb t) → (e : Expr) → T (reads n e) → meets va sa e ≡ meets vb sb e
  meets_alike va vb sa sb f g [] h = refl
  meets_alike va vb sa sb f g (constant z ∷ e) h = meets_alike va vb sa sb f g e h
  meets_alike va vb sa sb f g (variable x ∷ e) h = ap₂ (λ (a b : Bool). a || b) (f x (ltb→lt x n (and_left (ltb x n) (reads n e) h))) (meets_alike va vb sa sb f g e (and_right (ltb x n) (reads n e) h))
  meets_alike va vb sa sb f g (sample t ∷ e) h = ap₂ (λ (a b : Bool). a || b) (g t) (meets_alike va vb sa sb f g e h)
  meets_alike va vb sa sb f g (held t ∷ e) h = ap₂ (λ (a b : Bool). a || b) (g t) (meets_alike va vb sa sb f g e h)
  meets_alike va vb sa sb f g (binary b ∷ e) h = meets_alike va vb sa sb f g e h
  meets_alike va vb sa sb f g (unary u ∷ e) h = meets_alike va vb sa sb f g e h

  both_cond : (x y : Bool) → x ≡ y → (a b c d : Option (Output × Q)) → Both a b → Both c d → Both (cond x a c) (cond y b d)
  both_cond x y e a b c d h g = search rules

  module _ (a b : Q) (l : Like a b) where
    pub carries_alike : (e : Expr) → T (reads n e) → carries a e ≡ carries b e
    carries_alike e h = meets_alike a.V b.V a.secret b.secret l.V l.secret e h

    like_w : (u : List Bool) → Like (with_w a u) (with_w b u)
    like_w u = record { V = l.V; secret = l.secret; W = l.W; L = l.L; w = refl }

    like_V : (f g : Bool → ℕ → Bool) → ((x : ℕ) (v : Bool) → f v x ≡ g v x) → Like (with_V a (λ y. f (a.V y) y)) (with_V b (λ y. g (b.V y) y))
    like_V f g h = record { V = λ x m. ap (λ (v : Bool). f v x) (l.V x m) ∙ h x (b.V x); secret = l.secret; W = l.W; L = l.L; w = l.w }

    like_entering : (v : ℕ → Bool) (m : ℕ) → Like (entering a v m) (entering b v m)
    like_entering v m = record {
      V = λ x h. ap (λ (u : Bool). u || v x) (l.V x h);
      secret = l.secret;
      W = λ x. ap (λ (k : ℕ). cond (v x) (suc k) k) (l.W x);
      L = ap (λ (k : ℕ). bit_or k m) l.L;
      w = ap (λ (u : List Bool). true ∷ u) l.w;
    }

    like_leaving : (v : ℕ → Bool) (m : ℕ) (u : List Bool) → Like (leaving a v m u) (leaving b v m u)
    like_leaving v m u = record {
      V = l.V;
      secret = l.secret;
      W = λ x. ap (λ (k : ℕ). cond (v x) (pred k) k) (l.W x);
      L = ap (λ (k : ℕ). without k m) l.L;
      w = refl;
    }

    merged_alike : (u : List Bool) (pe pu : Code) → Both (merged a u pe pu) (merged b u pe pu)
    merged_alike u pe pu = search rules

    pub react_alike : (x : Input) → T (fit n x) → Both (react a x) (react b x)
    react_alike (at_branch m e pe pu) h =
        both_cond (not (carries a e) || not (all_bottom a.w)) (not (carries b e) || not (all_bottom b.w)) (ap₂ (λ (u v : Bool). not u || not v) (carries_alike e h) (ap all_bottom l.w))
        (some (ok, with_w a (false ∷ a.w))) (some (ok, with_w b (false ∷ b.w)))
        (cond (apart (either_needs pe pu) (bit_or m a.L)) (some (ok, entering a (either_defines pe pu) (either_needs pe pu))) none) (cond (apart (either_needs pe pu) (bit_or m b.L)) (some (ok, entering b (either_defines pe pu) (either_needs pe pu))) none)
        (refl, record { V = l.V; secret = l.secret; W = l.W; L = l.L; w = ap (λ (u : List Bool). false ∷ u) l.w })
        (both_cond (apart (either_needs pe pu) (bit_or m a.L)) (apart (either_needs pe pu) (bit_or m b.L)) (ap (λ (k : ℕ). apart (either_needs pe pu) (bit_or m k)) l.L)
        (some (ok, entering a (either_defines pe pu) (either_needs pe pu))) (some (ok, entering b (either_defines pe pu) (either_needs pe pu))) none none
        (refl, like_entering (either_defines pe pu) (either_needs pe pu)) tt)
    react_alike (at_merge pe pu) h = subst (λ (u : List Bool). Both (merged a a.w pe pu) (merged b u pe pu)) l.w (merged_alike a.w pe pu)
    react_alike (at_sync m e) h =
        both_cond (not (carries a e) && (not (all_bottom a.w) || apart m a.L)) (not (carries b e) && (not (all_bottom b.w) || apart m b.L))
        (ap₂ (λ (u v : Bool). not u && v) (carries_alike e h) (ap₂ (λ (u : List Bool) (k : ℕ). not (all_bottom u) || apart m k) l.w l.L))
        (some (ok, a)) (some (ok, b)) none none (refl, l) tt
    react_alike at_skip h = (refl, l)
    react_alike (at_assign x e) h =
        both_cond (carries a e || not (eqb (a.W x) 0)) (carries b e || not (eqb (b.W x) 0)) (ap₂ (λ (u : Bool) (k : ℕ). u || not (eqb k 0)) (carries_alike e h) (l.W x))
        (some (ok, with_V a (λ y. eqb y x || a.V y))) (some (ok, with_V b (λ y. eqb y x || b.V y)))
        (some (ok, with_V a (λ y. not (eqb y x) && a.V y))) (some (ok, with_V b (λ y. not (eqb y x) && b.V y)))
        (refl, like_V (λ v y. eqb y x || v) (λ v y. eqb y x || v) (λ y v. refl))
        (refl, like_V (λ v y. not (eqb y x) && v) (λ v y. not (eqb y x) && v) (λ y v. refl))
    react_alike (at_output e) h =
        both_cond (all_bottom a.w) (all_bottom b.w) (ap all_bottom l.w)
        (cond (carries a e) (some (default, a)) (some (ok, a))) (cond (carries b e) (some (default, b)) (some (ok, b))) (some (no, a)) (some (no, b))
        (both_cond (carries a e) (carries b e) (carries_alike e h) (some (default, a)) (some (default, b)) (some (ok, a)) (some (ok, b)) (refl, l) (refl, l))
        (refl, l)

  pub extract_alike : (p r : Pool) (i : ℕ) → Same n p r → Like (extract p i) (extract r i)
  extract_alike p r i h = record { V = h.V; secret = h.secret; W = h.W; L = h.L; w = h.w i }

  pub update_alike : (p r : Pool) (i : ℕ) (a b : Q) → Same n p r → Like a b → Same n (update p i a) (update r i b)
  update_alike p r i a b h l = record { V = l.V; secret = l.secret; W = l.W; L = l.L; w = λ j. ap₂ (λ (u v : List Bool). cond (eqb j i) u v) l.w (h.w j) }

  go_on_alike : (p r : Pool) (i : ℕ) → Same n p r → (a b : Option (Output × Q)) → Both a b → (f g : Pool → Option (List Output × Pool)) → ((x y : Pool) → Same n x y → BothHeard (f x) (g y)) → BothHeard (go_on p i a f) (go_on r i b g)
  go_on_alike p r i h none none l f g k = tt
  go_on_alike p r i h none (some b) l f g k = absurd l
  go_on_alike p r i h (some a) none l f g k = absurd l
  go_on_alike p r i h (some a) (some b) l f g k = noted (f (update p i a.1)) (g (update r i b.1)) (k (update p i a.1) (update r i b.1) (update_alike p r i a.1 b.1 h l.1))
    where
      noted : (x y : Option (List Output × Pool)) → BothHeard x y → BothHeard (note a.0 x) (note b.0 y)
      noted none none m = tt
      noted none (some y) m = absurd m
      noted (some x) none m = absurd m
      noted (some x) (some y) m = (ap₂ (λ (o : Output) (os : List Output). o ∷ os) l.0 m.0, m.1)

  pub hears_alike : (i : ℕ) (xs : List Input) → T (all_fit n xs) → (p r : Pool) → Same n p r → BothHeard (hears p i xs) (hears r i xs)
  hears_alike i [] h p r m = (refl, m)
  hears_alike i (x ∷ xs) h p r m =
      go_on_alike p r i m (react (extract p i) x) (react (extract r i) x) (react_alike (extract p i) (extract r i) (extract_alike p r i m) x (and_left (fit n x) (all_fit n xs) h))
      (λ u. hears u i xs) (λ u. hears u i xs) (hears_alike i xs (and_right (fit n x) (all_fit n xs) h))
