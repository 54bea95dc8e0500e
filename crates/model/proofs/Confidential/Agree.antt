-- Two states that look the same but for their threads, and what an expression is in them.
use Rattle.std.proofs.Common.{◌≡◌, ℕ, List, [], ◌∷◌, length, get_or, ℤ, pos, sym, refl, ap, ◌∙◌, subst, ap₂}
use Rattle.codec.specs.Expressions.{Expr}
use Rattle.codec.specs.Expressions.Op.{constant, variable, sample, held, binary, unary}
use Rattle.model.specs.Values.{Cell, blank, eval, joined, top, below, sample_at, apply_binary, apply_unary}
use Rattle.model.specs.Machine.{State, unused, level_of, value_of}
use Rattle.model.proofs.Confidential.View.{View, Had, Seen, Hid, LR, lr_same, lr_join, lr_zero, seen_left, seen_right, seen_path, track_had}

pub record CR (v : View) (c d : Cell) : Type 0 where
  pub from_l : Seen v c.level → c ≡ d
  pub from_r : Seen v d.level → c ≡ d

module _ (v : View) where
  pub cr_same : (c : Cell) → CR v c c
  cr_same c = record { from_l = λ s. refl; from_r = λ s. refl }

  pub cr_sym : {c d : Cell} → CR v c d → CR v d c
  cr_sym p = record { from_l = λ s. sym (p.from_r s); from_r = λ s. sym (p.from_l s) }

  pub cr_trans : {c d e : Cell} → CR v c d → CR v d e → CR v c e
  cr_trans {c} {d} {e} p q = record {
    from_l = λ s. let h : c ≡ d = p.from_l s in h ∙ q.from_l (subst (λ (x : Cell). Seen v x.level) h s);
    from_r = λ s. let h : d ≡ e = q.from_r s in p.from_r (subst (λ (x : Cell). Seen v x.level) (sym h) s) ∙ h;
  }

  pub cr_hid : {c d : Cell} → Hid v c.level → Hid v d.level → CR v c d
  cr_hid p q = record { from_l = λ s. absurd (p.is s); from_r = λ s. absurd (q.is s) }

  -- The levels of two cells that look the same.
  pub cr_level : {c d : Cell} → Had v c.level → Had v d.level → CR v c d → LR v c.level d.level
  cr_level p q h = record { had_l = p; had_r = q; from_l = λ s. ap (λ (x : Cell). x.level) (h.from_l s); from_r = λ s. ap (λ (x : Cell). x.level) (h.from_r s) }

  -- Two cells made alike.
  pub cr_make : {a b : ℕ} {x y : ℤ} → LR v a b → (Seen v a → x ≡ y) → CR v (record { value = x; level = a }) (record { value = y; level = b })
  cr_make {a} {b} {x} {y} p f = record {
    from_l = λ s. ap₂ {C = Cell} (λ z n. record { value = z; level = n }) (f s) (p.from_l s);
    from_r = λ s. ap₂ {C = Cell} (λ z n. record { value = z; level = n }) (f (seen_path v (sym (p.from_r s)) s)) (p.from_r s);
  }

abbrev pub track_level : View → ℕ → ℕ
track_level v t = get_or v.sc.track_levels t 0

abbrev pub channel_level : View → ℕ → ℕ
channel_level v h = get_or v.sc.channel_levels h 0

pub record Agree (v : View) (s t : State) : Type 0 where
  pub cells_long : length s.cells ≡ length t.cells
  pub cells : (x : ℕ) → CR v (get_or s.cells x blank) (get_or t.cells x blank)
  pub tracks_long : length s.tracks ≡ length t.tracks
  pub tracks : (n : ℕ) → Seen v (track_level v n) → get_or s.tracks n [] ≡ get_or t.tracks n []
  pub channels_long : length s.channels ≡ length t.channels
  pub channels : (h : ℕ) → Seen v (channel_level v h) → get_or s.channels h unused ≡ get_or t.channels h unused
  pub turns : s.turns ≡ t.turns

module _ (v : View) where
  pub agree_same : (s : State) → Agree v s s
  agree_same s = record {
    cells_long = refl;
    cells = λ x. cr_same v (get_or s.cells x blank);
    tracks_long = refl;
    tracks = λ n h. refl;
    channels_long = refl;
    channels = λ n h. refl;
    turns = refl;
  }

  pub agree_sym : {s t : State} → Agree v s t → Agree v t s
  agree_sym p = record {
    cells_long = sym p.cells_long;
    cells = λ x. cr_sym v (p.cells x);
    tracks_long = sym p.tracks_long;
    tracks = λ n h. sym (p.tracks n h);
    channels_long = sym p.channels_long;
    channels = λ n h. sym (p.channels n h);
    turns = sym p.turns;
  }

  pub agree_trans : {s t u : State} → Agree v s t → Agree v t u → Agree v s u
  agree_trans p q = record {
    cells_long = p.cells_long ∙ q.cells_long;
    cells = λ x. cr_trans v (p.cells x) (q.cells x);
    tracks_long = p.tracks_long ∙ q.tracks_long;
    tracks = λ n h. p.tracks n h ∙ q.tracks n h;
    channels_long = p.channels_long ∙ q.channels_long;
    channels = λ n h. p.channels n h ∙ q.channels n h;
    turns = p.turns ∙ q.turns;
  }

-- Every cell's level is a code.
pub record HadCells (v : View) (cs : List Cell) : Type 0 where
  pub at : (x : ℕ) → Had v (get_or cs x blank).level

-- Levels that look the same, and values that are the same where the level is seen.
pub record Ex (v : View) {A : Type 0} (a b : ℕ) (x y : A) : Type 0 where
  pub levels : LR v a b
  pub values : Seen v a → x ≡ y

module _ (v : View) (cs ds : List Cell) (hc : HadCells v cs) (hd : HadCells v ds) (r : (x : ℕ) → CR v (get_or cs x blank) (get_or ds x blank))
    (ts us : List (List ℤ)) (q : (n : ℕ) → Seen v (track_level v n) → get_or ts n [] ≡ get_or us n []) where
  abbrev after : Expr → ℕ → ℕ
  after e a = joined v.k (λ x. (get_or cs x blank).level) (track_level v) e a

  abbrev after' : Expr → ℕ → ℕ
  after' e a = joined v.k (λ x. (get_or ds x blank).level) (track_level v) e a

  ex_go : (e : Expr) (a b : ℕ) (x y : List ℤ) → Ex v a b x y → Ex v (after e a) (after' e b) (eval cs ts e x) (eval ds us e y)
  ex_go [] a b x y h = h
  ex_go (constant z ∷ e) a b x y h = ex_go e a b (z ∷ x) (z ∷ y) (record { levels = h.levels; values = λ s. ap (λ (w : List ℤ). z ∷ w) (h.values s) })
  ex_go (variable n ∷ e) a b x y h =
      ex_go e _ _ _ _ (record {
        levels = lr_join v h.levels (cr_level v (hc.at n) (hd.at n) (r n));
        values = λ s. ap₂ (λ (c : Cell) (w : List ℤ). c.value ∷ w) ((r n).from_l (seen_right v h.levels.had_l (hc.at n) s)) (h.values (seen_left v h.levels.had_l (hc.at n) s));
      })
  ex_go (sample t ∷ e) a b x y h =
      ex_go e _ _ _ _ (record {
        levels = lr_join v h.levels (lr_same v (track_had v t));
        values = λ s. ap₂ (λ (zs w : List ℤ). sample_at zs (top w) ∷ below w) (q t (seen_right v h.levels.had_l (track_had v t) s)) (h.values (seen_left v h.levels.had_l (track_had v t) s));
      })
  ex_go (held t ∷ e) a b x y h =
      ex_go e _ _ _ _ (record {
        levels = lr_join v h.levels (lr_same v (track_had v t));
        values = λ s. ap₂ (λ (zs w : List ℤ). pos (length zs) ∷ w) (q t (seen_right v h.levels.had_l (track_had v t) s)) (h.values (seen_left v h.levels.had_l (track_had v t) s));
      })
  ex_go (binary o ∷ e) a b x y h = ex_go e _ _ _ _ (record { levels = h.levels; values = λ s. ap (λ (w : List ℤ). apply_binary o (top (below w)) (top w) ∷ below (below w)) (h.values s) })
  ex_go (unary o ∷ e) a b x y h = ex_go e _ _ _ _ (record { levels = h.levels; values = λ s. ap (λ (w : List ℤ). apply_unary o (top w) ∷ below w) (h.values s) })

module _ (v : View) where
  pub ex : (s t : State) → HadCells v s.cells → HadCells v t.cells → Agree v s t → (e : Expr)
      → Ex v (level_of v.k v.sc s e) (level_of v.k v.sc t e) (value_of v.k v.sc s e) (value_of v.k v.sc t e)
  ex s t hs ht p e =
      let g = ex_go v s.cells t.cells hs ht p.cells s.tracks t.tracks p.tracks e 0 0 [] [] (record { levels = lr_zero v; values = λ _. refl }) in
      record { levels = g.levels; values = λ w. ap top (g.values w) }

  pub level_had : (s : State) → HadCells v s.cells → (e : Expr) → Had v (level_of v.k v.sc s e)
  level_had s h e = (ex s s h h (agree_same v s) e).levels.had_l
