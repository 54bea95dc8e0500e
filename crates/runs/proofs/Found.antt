-- The tests of a call are passed exactly where its slabs hold a state of the run.
use Rattle.std.proofs.Common.{eqb→eq, Bor, ◌≡◌, ℕ, ◌<◌, ◌≤◌, Bool, true, false, ◌&&◌, T, eqb, leb, List, map, length, get_or, take, sym, refl, ap, ◌∙◌, subst, ⊎_elim, arith, le→leb, leb→le, length-take, length-take-le, get_or-take, eq-eqb, MatchOption}
use Rattle.std.specs.Bool.{then_some}
use lib.ListN
use lib.ListN.{length-map}
use Rattle.std.proofs.lemmas.List.{same_lists, get_or-map, get_or_past}
use Rattle.std.proofs.lemmas.Bool.{cases_lt}
use Rattle.lattice.specs.Levels.{Levels, Lawful}
use Rattle.codec.specs.Frames as M
use Rattle.codec.specs.Shapes.{head_of as as_head}
use Rattle.codec.specs.declared.frames.Head.{Head}
use Rattle.script.specs.Code.{Script}
use Rattle.script.specs.Trees.{head_of, script_frames}
use Rattle.model.specs.Machine.{State}
use Rattle.model.specs.Threads.{Thread, ended}
use Rattle.model.specs.Values.{Cell, blank}
use Rattle.model.specs.Fitting.{Account, AllAccounts, Coded, all_fit}
use Rattle.model.proofs.Tests.{is_true, and_left, and_right, both}
use Rattle.model.proofs.Places.Fit.{places_fit}
use Rattle.survey.specs.Table.{Tabled, Tabulates}
use Rattle.survey.specs.declared.table.Step.{Step}
use Rattle.runs.specs.declared.Port.{Port}
use Rattle.runs.specs.declared.Core.{Core}
use Rattle.runs.specs.declared.declaring.Declared.{Declared}
use Rattle.runs.specs.Flat.{cell_of, cells_of, level_of_port, nil_cell, nil_port, state_of}
use Rattle.runs.specs.Kept.{CodedLevels, entries_needed, samples_needed}
use Rattle.runs.specs.Views.{Declares, size_of_port}
use Rattle.runs.specs.Memory.{Long, Memory, StandsFor, account}
use Rattle.runs.specs.Declaring.{DeclaresAs, Fresh, InSlab}
use Rattle.runs.specs.Fitted.{FitsFrames, TellsFit}
use Rattle.runs.specs.Finding.{HasNoState, SomeState, declares_same, is_long_enough, same_head, ports_agree, all_ports_agree}
use Rattle.runs.proofs.Matching.{each_first, first_each, fits_then, then_fits}

-- Lengths

pub long_from : (m : Memory) → is_long_enough m.core (length m.samples) (length m.entries) (length m.marks) ≡ true → Long m
long_from m e =
    let t : T (is_long_enough m.core (length m.samples) (length m.entries) (length m.marks)) = subst T (sym e) tt in
    let rest = and_right (leb (samples_needed m.core) (length m.samples)) (leb (entries_needed m.core) (length m.entries) && leb 128 (length m.marks)) t in
    record {
      samples = leb→le (samples_needed m.core) (length m.samples) (and_left _ _ t);
      entries = leb→le (entries_needed m.core) (length m.entries) (and_left _ _ rest);
      marks = leb→le 128 (length m.marks) (and_right _ _ rest);
    }

pub long_to : (m : Memory) → Long m → is_long_enough m.core (length m.samples) (length m.entries) (length m.marks) ≡ true
long_to m l =
    is_true _ (both _ _ (le→leb (samples_needed m.core) (length m.samples) l.samples)
    (both _ _ (le→leb (entries_needed m.core) (length m.entries) l.entries) (le→leb 128 (length m.marks) l.marks)))

-- Headers

equal_test : (a b : ℕ) → a ≡ b → T (eqb a b)
equal_test a b e = subst T (sym (eq-eqb a b e)) tt

head_from : (a b : Head) → T (same_head a b) → as_head b ≡ as_head a
head_from a b t =
    let p = and_left (eqb a.version b.version && eqb a.kind b.kind) _ t in
    let q = and_right (eqb a.version b.version && eqb a.kind b.kind) _ t in
    let r = and_left (eqb a.threads b.threads && eqb a.variables b.variables) _ q in
    let s = and_right (eqb a.threads b.threads && eqb a.variables b.variables) _ q in
    let u = and_left (eqb a.tracks b.tracks && eqb a.channels b.channels) _ s in
    let version = eqb→eq a.version b.version (and_left _ _ p) in
    let kind = eqb→eq a.kind b.kind (and_right _ _ p) in
    let threads = eqb→eq a.threads b.threads (and_left _ _ r) in
    let variables = eqb→eq a.variables b.variables (and_right _ _ r) in
    let tracks = eqb→eq a.tracks b.tracks (and_left _ _ u) in
    let channels = eqb→eq a.channels b.channels (and_right _ _ u) in
    let locks = eqb→eq a.locks b.locks (and_right _ _ s) in
    λ i. record { version = sym version i; kind = sym kind i; threads = sym threads i; variables = sym variables i; tracks = sym tracks i; channels = sym channels i; locks = sym locks i }

head_to : (a b : Head) → as_head b ≡ as_head a → T (same_head a b)
head_to a b e =
    let field : (f : M.Head → ℕ) → T (eqb (f (as_head a)) (f (as_head b))) = λ f. equal_test _ _ (sym (ap f e)) in
    both _ _ (both _ _ (field (λ h. h.version)) (field (λ h. h.kind)))
    (both _ _ (both _ _ (field (λ h. h.threads)) (field (λ h. h.variables)))
    (both _ _ (both _ _ (field (λ h. h.tracks)) (field (λ h. h.channels))) (field (λ h. h.locks))))

-- Tracks and channels

-- Lists of one field are the same where they are at every place.
field_same : (f : Port → ℕ) (ps qs : List Port) (n : ℕ) → n ≤ length ps → n ≤ length qs → ((h : ℕ) → h < n → f (get_or ps h nil_port) ≡ f (get_or qs h nil_port)) → map f (take n ps) ≡ map f (take n qs)
field_same f ps qs n lp lq each =
    let p = length-take-le n ps lp in
    let q = length-take-le n qs lq in
    let mp = length-map (take n ps) f in
    let mq = length-map (take n qs) f in
    same_lists (map f (take n ps)) (map f (take n qs)) (omega arith)
    (λ i d lt.
    let below : i < n = omega arith in
    get_or-map f (take n ps) i nil_port d (omega arith) ∙ ap f (get_or-take n ps i nil_port below) ∙ each i below ∙ sym (ap f (get_or-take n qs i nil_port below)) ∙ sym (get_or-map f (take n qs) i nil_port d (omega arith)))

-- And the other way.
field_each : (f : Port → ℕ) (ps qs : List Port) (n : ℕ) → n ≤ length ps → n ≤ length qs → map f (take n ps) ≡ map f (take n qs) → (h : ℕ) → h < n → f (get_or ps h nil_port) ≡ f (get_or qs h nil_port)
field_each f ps qs n lp lq e h lt =
    let p = length-take-le n ps lp in
    let q = length-take-le n qs lq in
    sym (get_or-map f (take n ps) h nil_port 0 (omega arith) ∙ ap f (get_or-take n ps h nil_port lt)) ∙ ap (λ (xs : List ℕ). get_or xs h 0) e ∙ get_or-map f (take n qs) h nil_port 0 (omega arith) ∙ ap f (get_or-take n qs h nil_port lt)

ports_from : (ps qs : List Port) (n : ℕ) → T (all_ports_agree ps qs n) → (h : ℕ) → h < n → (level_of_port (get_or qs h nil_port) ≡ level_of_port (get_or ps h nil_port)) × (size_of_port (get_or qs h nil_port) ≡ size_of_port (get_or ps h nil_port))
ports_from ps qs n t h lt =
    let here = each_first (λ h. ports_agree (get_or ps h nil_port) (get_or qs h nil_port)) n t h lt in
    (sym (eqb→eq _ _ (and_left (eqb (get_or ps h nil_port).level (get_or qs h nil_port).level) _ here)), sym (eqb→eq _ _ (and_right (eqb (get_or ps h nil_port).level (get_or qs h nil_port).level) _ here)))

module _ (sc : Script) (c : Core) (d : Declared) (fresh : Fresh sc d) (ct : length c.tracks ≡ 8) (cc' : length c.channels ≡ 8) (dt : length d.tracks ≡ 8) (dc : length d.channels ≡ 8) where
  pub declares_from : declares_same c d ≡ true → Declares sc c
  declares_from e =
      let t : T (declares_same c d) = subst T (sym e) tt in
      let head = head_from c.head d.head (and_left (same_head c.head d.head) _ t) in
      let rest = and_right (same_head c.head d.head) (all_ports_agree c.tracks d.tracks c.head.tracks && all_ports_agree c.channels d.channels c.head.channels) t in
      let tracks = ports_from c.tracks d.tracks c.head.tracks (and_left (all_ports_agree c.tracks d.tracks c.head.tracks) _ rest) in
      let channels = ports_from c.channels d.channels c.head.channels (and_right (all_ports_agree c.tracks d.tracks c.head.tracks) _ rest) in
      let nt : d.head.tracks ≡ c.head.tracks = ap (λ h. h.tracks) head in
      let nc : d.head.channels ≡ c.head.channels = ap (λ h. h.channels) head in
      let ft = c.few.2 in
      let fc = c.few.3 in
      let at-tracks : (f : Port → ℕ) → ((h : ℕ) → h < c.head.tracks → f (get_or d.tracks h nil_port) ≡ f (get_or c.tracks h nil_port)) → map f (take d.head.tracks d.tracks) ≡ map f (take c.head.tracks c.tracks) =
      λ f each. ap (λ (n : ℕ). map f (take n d.tracks)) nt ∙ field_same f d.tracks c.tracks c.head.tracks (omega arith) (omega arith) each in
      let at-channels : (f : Port → ℕ) → ((h : ℕ) → h < c.head.channels → f (get_or d.channels h nil_port) ≡ f (get_or c.channels h nil_port)) → map f (take d.head.channels d.channels) ≡ map f (take c.head.channels c.channels) =
      λ f each. ap (λ (n : ℕ). map f (take n d.channels)) nc ∙ field_same f d.channels c.channels c.head.channels (omega arith) (omega arith) each in
      record {
        head = fresh.head ∙ head;
        track_levels = fresh.tracks.levels ∙ at-tracks level_of_port (λ h lt. (tracks h lt).0);
        track_sizes = fresh.tracks.sizes ∙ at-tracks size_of_port (λ h lt. (tracks h lt).1);
        channel_levels = fresh.channels.levels ∙ at-channels level_of_port (λ h lt. (channels h lt).0);
        channel_sizes = fresh.channels.sizes ∙ at-channels size_of_port (λ h lt. (channels h lt).1);
      }

  pub declares_to : Declares sc c → declares_same c d ≡ true
  declares_to e =
      let head : as_head d.head ≡ as_head c.head = sym fresh.head ∙ e.head in
      let nt : d.head.tracks ≡ c.head.tracks = ap (λ h. h.tracks) head in
      let nc : d.head.channels ≡ c.head.channels = ap (λ h. h.channels) head in
      let ft = c.few.2 in
      let fc = c.few.3 in
      let track : (f : Port → ℕ) → map f (take d.head.tracks d.tracks) ≡ map f (take c.head.tracks c.tracks) → (h : ℕ) → h < c.head.tracks → T (eqb (f (get_or c.tracks h nil_port)) (f (get_or d.tracks h nil_port))) =
      λ f q h lt. equal_test _ _ (field_each f c.tracks d.tracks c.head.tracks (omega arith) (omega arith) (sym q ∙ ap (λ (n : ℕ). map f (take n d.tracks)) nt) h lt) in
      let channel : (f : Port → ℕ) → map f (take d.head.channels d.channels) ≡ map f (take c.head.channels c.channels) → (h : ℕ) → h < c.head.channels → T (eqb (f (get_or c.channels h nil_port)) (f (get_or d.channels h nil_port))) =
      λ f q h lt. equal_test _ _ (field_each f c.channels d.channels c.head.channels (omega arith) (omega arith) (sym q ∙ ap (λ (n : ℕ). map f (take n d.channels)) nc) h lt) in
      is_true _ (both _ _ (head_to c.head d.head head) (both _ _
      (first_each (λ h. ports_agree (get_or c.tracks h nil_port) (get_or d.tracks h nil_port)) c.head.tracks
      (λ h lt. both _ _ (track level_of_port (sym fresh.tracks.levels ∙ e.track_levels) h lt) (track size_of_port (sym fresh.tracks.sizes ∙ e.track_sizes) h lt)))
      (first_each (λ h. ports_agree (get_or c.channels h nil_port) (get_or d.channels h nil_port)) c.head.channels
      (λ h lt. both _ _ (channel level_of_port (sym fresh.channels.levels ∙ e.channel_levels) h lt) (channel size_of_port (sym fresh.channels.sizes ∙ e.channel_sizes) h lt)))))

-- The state

-- A variable's level is a code wherever the run's own are.
cells_coded : (k : Levels) → Lawful k → (c : Core) → CodedLevels k c → (x : ℕ) → T (k.has (get_or (cells_of c) x blank).level)
cells_coded k lawful c each x = ⊎_elim
    (λ (lt : x < c.head.variables).
    subst (λ (z : ℕ). T (k.has z)) (sym (ap (λ z. z.level) (ListN.get_or-map cell_of (take c.head.variables c.cells) x nil_cell) ∙ ap (λ z. z.level) (get_or-take c.head.variables c.cells x nil_cell lt))) (subst T (sym (each x lt)) tt))
    (λ (ge : c.head.variables ≤ x).
    let short = length-take c.head.variables c.cells in
    let long = length-map (take c.head.variables c.cells) cell_of in
    subst (λ (z : ℕ). T (k.has z)) (sym (ap (λ z. z.level) (get_or_past (cells_of c) x blank (omega arith)))) lawful.open_has)
    (cases_lt x c.head.variables)

-- Every block that a thread is inside has a code, also where there is no such thread.
blocks_coded : (k : Levels) (sc : Script) (f : ℕ → Account) (ts : List Thread) → AllAccounts k sc f ts → (i : ℕ) → Coded k (get_or ts i ended).inside
blocks_coded k sc f ts a i = ⊎_elim
    (λ (lt : i < length sc.codes). (a.each i lt).coded)
    (λ (ge : length sc.codes ≤ i). subst (λ (t : Thread). Coded k t.inside) (sym (get_or_past ts i ended (omega (arith, a.long)))) tt)
    (cases_lt i (length sc.codes))

module _ (kind : ℕ) (k : Levels) (m : Memory) (sc : Script) where
  -- What passes every test stands for a state.
  pub stands_from : Lawful k → InSlab kind k m.script sc → Declares sc m.core → Long m → CodedLevels k m.core → FitsFrames k (script_frames sc) m.core m.marks → (s : State) × StandsFor kind k m sc s
  stands_from lawful held declares long codes fits =
      let c = m.core in
      let count : length sc.codes ≡ c.head.threads = ap (λ h. h.threads) declares.head in
      let all = subst (λ (n : ℕ). T (all_fit k (script_frames sc) (account c m.marks) n)) (sym count) fits.accounts in
      let built = places_fit.all_rebuilt kind k sc held.valid (account c m.marks) all in (
        state_of c m.samples m.entries built.0,
        record {
          valid = held.valid;
          holds = held.holds;
          declares = declares;
          long = long;
          accounts = built.1;
          ends = λ i lt. fits.ends i (omega arith);
          coded = record { cells = cells_coded k lawful c codes; branches = blocks_coded k sc (account c m.marks) built.0 built.1 };
          is = refl;
        },
      )

  -- What stands for a state passes the test of threads.
  pub fits_of : (s : State) → StandsFor kind k m sc s → FitsFrames k (script_frames sc) m.core m.marks
  fits_of s st =
      let c = m.core in
      let count : length sc.codes ≡ c.head.threads = ap (λ h. h.threads) st.declares.head in
      record {
        accounts = subst (λ (n : ℕ). T (all_fit k (script_frames sc) (account c m.marks) n)) count (places_fit.all_fits k sc (account c m.marks) s.threads st.accounts);
        ends = λ i lt. st.ends i (omega arith);
      }

  -- Its levels are codes.
  pub levels_coded : (s : State) → StandsFor kind k m sc s → CodedLevels k m.core
  levels_coded s st x lt =
      let c = m.core in
      let cells : s.cells ≡ cells_of c = ap (λ (x : State). x.cells) st.is in
      is_true _ (subst (λ (z : ℕ). T (k.has z)) (ap (λ (cs : List Cell). (get_or cs x blank).level) cells ∙ ap (λ z. z.level) (ListN.get_or-map cell_of (take c.head.variables c.cells) x nil_cell) ∙ ap (λ z. z.level) (get_or-take c.head.variables c.cells x nil_cell lt)) (st.coded.cells x))

-- The answer of a call that looks for a state

module _ (kind : ℕ) (k : Levels) (lawful : Lawful k) (m : Memory) (d : Declared) (shown : DeclaresAs kind k m.script d)
    (ct : length m.core.tracks ≡ 8) (cn : length m.core.channels ≡ 8) where
  -- The script declares something else.
  pub none_other : declares_same m.core d ≡ false → HasNoState kind k m
  none_other e sc s st =
      let h : declares_same m.core d ≡ true = declares_to sc m.core d (shown.fresh sc (record { valid = st.valid; holds = st.holds })) ct cn shown.eight_tracks shown.eight_channels st.declares in
      let z : ◌≡◌ {A = ℕ} 0 1 = cc in
      omega arith

  module _ (table : List Step) (tabulates : Tabulates m.script table) (long : 512 ≤ length table) (r : Bool) (tells : TellsFit kind k (take d.frames table) m.core m.marks r) (codes : CodedLevels k m.core) where
    table_of : (sc : Script) → InSlab kind k m.script sc → Tabled (head_of sc) m.script (take d.frames table) (script_frames sc)
    table_of sc i =
        subst (λ (n : ℕ). Tabled (head_of sc) m.script (take n table) (script_frames sc)) (sym (shown.fresh sc i).frames) (tabulates kind k sc i.valid i.holds long)

    -- Threads do not fit.
    pub none_unfit : r ≡ false → HasNoState kind k m
    none_unfit e sc s st =
        let i : InSlab kind k m.script sc = record { valid = st.valid; holds = st.holds } in
        let h : r ≡ true = then_fits kind k (take d.frames table) m.core m.marks r tells sc (head_of sc) m.script st.valid (table_of sc i) (fits_of kind k m sc s st) in
        let z : ◌≡◌ {A = ℕ} 0 1 = cc in
        omega arith

    -- All is as it should be.
    pub some_fit : declares_same m.core d ≡ true → Long m → r ≡ true → SomeState kind k m (take d.frames table)
    some_fit e lengths f =
        let sc = shown.script in
        let i = shown.held in
        let fresh = shown.fresh sc i in
        let tabled = table_of sc i in
        let s = stands_from kind k m sc lawful i (declares_from sc m.core d fresh ct cn shown.eight_tracks shown.eight_channels e) lengths codes (fits_then kind k (take d.frames table) m.core m.marks r tells sc (head_of sc) m.script i.valid tabled f) in
        record { script = sc; state = s.0; stands = s.1; tabled = tabled }

    -- By the answer of the test.
    pub fit_told : (steps : Bor (List Step)) → steps.now ≡ take d.frames table → declares_same m.core d ≡ true → Long m → MatchOption (then_some r steps) (HasNoState kind k m) (λ x. SomeState kind k m x.now)
    fit_told steps cut e lengths = go r refl
      where
        go : (b : Bool) → r ≡ b → MatchOption (then_some b steps) (HasNoState kind k m) (λ x. SomeState kind k m x.now)
        go true f = subst (SomeState kind k m) (sym cut) (some_fit e lengths f)
        go false f = none_unfit f
