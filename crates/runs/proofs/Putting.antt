-- A put: one channel's entries, and the others as they were.
use Rattle.std.proofs.Common.{◌≡◌, ℕ, zero, suc, ◌+◌, ◌-◌, ◌<◌, ◌≤◌, Bool, true, false, cond, ltb, ◌≢◌, ◌⊎◌, List, [], ◌∷◌, ◌++◌, map, length, get_or, take, drop, set, sym, refl, ap, ◌∙◌, subst, inl, inr, ⊎_elim, add-one, arith, length-drop, length-set, length-take, get_or-set_other, get_or-take, get_or-set_same, ltb-true}
use lib.Seq.{map-set, set-get_or}
use Rattle.std.proofs.lemmas.List.{map_push, length-map, drop-set-add, drop-set-lt, take_more_set, take-set-le}
use Rattle.std.proofs.lemmas.Bool.{cases_eq}
use Rattle.model.specs.Machine.{add_entry, Channel as ModelChannel, Entry as ModelEntry}
use Rattle.runs.specs.declared.Port.{Port}
use Rattle.runs.specs.declared.Entry.{Entry}
use Rattle.runs.specs.declared.Core.{Core}
use Rattle.runs.specs.Flat.{nil_port, entry_of, channel_of, level_of_port, Part, added_port, added_entries}
use Rattle.runs.specs.Views.{size_of_port, Apart}
use Rattle.runs.proofs.Raising.{take_set_in}
use Rattle.runs.proofs.Threads.{Ports}

pub part_more : {X : Type 0} (es : List X) (e : X) (start n : ℕ) → start + n < length es → take (n + 1) (drop start (set es (start + n) e)) ≡ take n (drop start es) ++ e ∷ []
part_more es e start n h =
    let l : n < length (drop start es) = simp length-drop (omega arith) in
    ap (take (n + 1)) (drop-set-add start es n e) ∙ take_more_set (drop start es) n e l

pub part_other : {X : Type 0} (es : List X) (e : X) (start n i : ℕ) → (i < start) ⊎ (start + n ≤ i) → take n (drop start (set es i e)) ≡ take n (drop start es)
part_other es e start n i h =
    ⊎_elim
    (λ (l : i < start). ap (take n) (drop-set-lt start es i e l))
    (λ (l : start + n ≤ i).
    let k : i ≡ start + (i - start) = omega arith in
    ap (λ m. take n (drop start (set es m e))) k ∙ ap (take n) (drop-set-add start es (i - start) e) ∙ take-set-le n (drop start es) (i - start) e (omega arith))
    h

-- Two lists that differ at one place, where it is set.
pub set_map_but : {X Y : Type 0} (f g : X → Y) (xs : List X) (d : X) (h : ℕ) (y : Y) → ((j : ℕ) → j < length xs → j ≢ h → f (get_or xs j d) ≡ g (get_or xs j d)) → set (map f xs) h y ≡ set (map g xs) h y
set_map_but f g [] d h y same = refl
set_map_but f g (x ∷ xs) d zero y same = ap (λ (t : List _). y ∷ t) (all xs (λ j lt. same (suc j) (omega arith) (λ (e : suc j ≡ 0). omega arith)))
  where
    all : (zs : List _) → ((j : ℕ) → j < length zs → f (get_or zs j d) ≡ g (get_or zs j d)) → map f zs ≡ map g zs
    all [] s = refl
    all (z ∷ zs) s = λ i. s 0 (omega arith) i ∷ all zs (λ j lt. s (suc j) (omega arith)) i
set_map_but f g (x ∷ xs) d (suc h) y same = λ i. same 0 (omega arith) (λ (e : 0 ≡ suc h). omega arith) i ∷ set_map_but f g xs d h y (λ j lt ne. same (suc j) (omega arith) (λ e. ne (omega arith))) i

module _ (q : Port) (e : Entry) (es : List Entry) (most : ℕ) (fits : Part q most es) where
  -- The channel that is put on.
  abbrev put_to : Bool → ModelChannel
  put_to b = cond b (record { entries = map entry_of (take q.count (drop q.start es)) ++ (entry_of e ∷ []); missed = q.missed }) (record { entries = map entry_of (take q.count (drop q.start es)); missed = suc q.missed })

  pub channel_added : channel_of (added_entries q e es) (added_port q) ≡ add_entry q.size (entry_of e) (channel_of es q)
  channel_added =
      let p = fits.part in
      let c = fits.held in
      let long : length (map entry_of (take q.count (drop q.start es))) ≡ q.count = length-map _ entry_of ∙ simp (length-take, length-drop) (omega arith) in
      go (ltb q.count q.size) (ltb-true q.count q.size) ∙ sym (ap (λ (n : ℕ). put_to (ltb n q.size)) long)
    where
      go : (b : Bool) → (b ≡ true → q.count < q.size)
          → ◌≡◌ {A = ModelChannel} (record { entries = map entry_of (take (cond b (q.count + 1) q.count) (drop q.start (cond b (set es (q.start + q.count) e) es))); missed = cond b q.missed (q.missed + 1) }) (put_to b)
      go true lt =
          let p = fits.part in
          let l = lt refl in
          ap (λ (xs : List ModelEntry). record { entries = xs; missed = q.missed }) (ap (map entry_of) (part_more es e q.start q.count (omega arith)) ∙ map_push entry_of (take q.count (drop q.start es)) e)
      go false lt = ap (λ (n : ℕ). record { entries = map entry_of (take q.count (drop q.start es)); missed = n }) (add-one q.missed)

  -- Another channel.
  pub channel_other : (r : Port) → Apart q r → r.count ≤ r.size → channel_of (added_entries q e es) r ≡ channel_of es r
  channel_other r apart held = go (ltb q.count q.size) (ltb-true q.count q.size)
    where
      go : (b : Bool) → (b ≡ true → q.count < q.size) → channel_of (cond b (set es (q.start + q.count) e) es) r ≡ channel_of es r
      go true lt =
          let l = lt refl in
          ap (λ (xs : List Entry). record { entries = map entry_of xs; missed = r.missed })
          (part_other es e r.start r.count (q.start + q.count) (⊎_elim (λ a. inl (omega arith)) (λ a. inr (omega arith)) apart))
      go false lt = refl

  -- The part of the channel after the put.
  pub part_added : Part (added_port q) (suc most) (added_entries q e es)
  part_added = go (ltb q.count q.size) (ltb-true q.count q.size)
    where
      go : (b : Bool) → (b ≡ true → q.count < q.size) → Part (record { level = q.level; start = q.start; size = q.size; count = cond b (q.count + 1) q.count; missed = cond b q.missed (q.missed + 1) }) (suc most) (cond b (set es (q.start + q.count) e) es)
      go true lt = let l = lt refl in let p = fits.part in let m = fits.missed in let n = length-set es (q.start + q.count) e in record { part = omega arith; held = omega arith; missed = omega arith }
      go false lt = let p = fits.part in let h = fits.held in let m = fits.missed in record { part = omega arith; held = omega arith; missed = omega arith }

  pub part_kept : (r : Port) → Part r most es → Part r (suc most) (added_entries q e es)
  part_kept r f = go (ltb q.count q.size)
    where
      go : (b : Bool) → Part r (suc most) (cond b (set es (q.start + q.count) e) es)
      go true = let p = f.part in let h = f.held in let m = f.missed in let n = length-set es (q.start + q.count) e in record { part = omega arith; held = omega arith; missed = omega arith }
      go false = let p = f.part in let h = f.held in let m = f.missed in record { part = omega arith; held = omega arith; missed = omega arith }

-- A put on channel h of the first n.
module _ (n : ℕ) (qs : List Port) (h : ℕ) (e : Entry) (es : List Entry) (most : ℕ) (few : n ≤ length qs) (below : h < n)
    (parts : (j : ℕ) → j < n → Part (get_or qs j nil_port) most es) (apart : (i j : ℕ) → i < n → j < n → i ≢ j → Apart (get_or qs i nil_port) (get_or qs j nil_port)) where
  abbrev port : Port
  port = get_or qs h nil_port

  pub channels_added : map (channel_of (added_entries port e es)) (take n (set qs h (added_port port))) ≡ set (map (channel_of es) (take n qs)) h (add_entry port.size (entry_of e) (channel_of es port))
  channels_added =
      let es' = added_entries port e es in
      let long : length (take n qs) ≡ n = simp length-take (omega arith) in
      ap (map (channel_of es')) (take_set_in n qs h (added_port port))
      ∙ map-set (channel_of es') (take n qs) h (added_port port)
      ∙ ap (set (map (channel_of es') (take n qs)) h) (channel_added port e es most (parts h below))
      ∙ set_map_but (channel_of es') (channel_of es) (take n qs) nil_port h _
      (λ j lt ne.
      let jn : j < n = omega arith in
      let r = get_or-take n qs j nil_port jn in
      let P : Port → Type 0 = λ x. channel_of es' x ≡ channel_of es x in
      subst P (sym r) (channel_other port e es most (parts h below) (get_or qs j nil_port) (apart h j below jn (λ q. ne (sym q))) (parts j jn).held))

  same_field : (f : Port → ℕ) → f (added_port port) ≡ f port → map f (take n (set qs h (added_port port))) ≡ map f (take n qs)
  same_field f same =
      ap (map f) (take_set_in n qs h (added_port port)) ∙ map-set f (take n qs) h (added_port port)
      ∙ ap (set (map f (take n qs)) h) (same ∙ ap f (sym (get_or-take n qs h nil_port below)))
      ∙ sym (map-set f (take n qs) h (get_or (take n qs) h nil_port)) ∙ ap (map f) (set-get_or (take n qs) h nil_port)

  at_or_other : (P : ℕ → Port → Type 0) → P h (added_port port) → ((j : ℕ) → j < n → j ≢ h → P j (get_or qs j nil_port)) → (j : ℕ) → j < n → P j (get_or (set qs h (added_port port)) j nil_port)
  at_or_other P here there j lt = ⊎_elim
      (λ (q : j ≡ h).
      let R : ℕ → Type 0 = λ x. P x (get_or (set qs h (added_port port)) x nil_port) in
      subst R (sym q) (subst (P h) (sym (get_or-set_same qs h (added_port port) nil_port (omega arith))) here))
      (λ (ne : j ≢ h). subst (P j) (sym (get_or-set_other qs h j (added_port port) nil_port ne)) (there j lt ne))
      (cases_eq j h)

-- The channels then.
pub ports_added : (c : Core) (h : ℕ) (e : Entry) (es : List Entry) (most : ℕ) → (few : c.head.channels ≤ length c.channels) (below : h < c.head.channels)
    (parts : (j : ℕ) → j < c.head.channels → Part (get_or c.channels j nil_port) most es)
    (apart : (i j : ℕ) → i < c.head.channels → j < c.head.channels → i ≢ j → Apart (get_or c.channels i nil_port) (get_or c.channels j nil_port))
    → length c.channels ≡ 8 → let q = get_or c.channels h nil_port in Ports (suc most) c (set c.channels h (added_port q)) (added_entries q e es)
ports_added c h e es most few below parts apart long =
    let n = c.head.channels in
    let qs = c.channels in
    let q = get_or qs h nil_port in
    record {
      long = length-set qs h (added_port q) ∙ long;
      levels = same_field n qs h e es most few below parts apart level_of_port refl;
      sizes = same_field n qs h e es most few below parts apart size_of_port refl;
      parts = at_or_other n qs h e es most few below parts apart (λ j r. Part r (suc most) (added_entries q e es)) (part_added q e es most (parts h below)) (λ j lt ne. part_kept q e es most (parts h below) (get_or qs j nil_port) (parts j lt));
      apart = λ i j li lj ne.
          at_or_other n qs h e es most few below parts apart (λ x r. x ≢ j → Apart r (get_or (set qs h (added_port q)) j nil_port))
          (λ nj. at_or_other n qs h e es most few below parts apart (λ y r. h ≢ y → Apart (added_port q) r) (λ z. absurd (z refl)) (λ y ly ny z. apart h y below ly z) j lj nj)
          (λ x lx nx nj. at_or_other n qs h e es most few below parts apart (λ y r. x ≢ y → Apart (get_or qs x nil_port) r) (λ z. apart x h lx below z) (λ y ly ny z. apart x y lx ly z) j lj nj) i li ne;
    }
