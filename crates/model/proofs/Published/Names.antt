-- Variables that are declared: a valid script reads no others.
use Rattle.std.proofs.Common.{ℕ, suc, Bool, true, ◌&&◌, T, ltb, List, [], ◌∷◌}
use Rattle.std.specs.List.{AllByRecursion}
use Rattle.codec.specs.Expressions.{Expr}
use Rattle.codec.specs.Expressions.Op.{constant, variable, sample, held, binary, unary}
use Rattle.codec.specs.Frames.{Head}
use Rattle.codec.specs.Sound.{declared as declared_names}
use Rattle.script.specs.Code.{Code}
use Rattle.script.specs.Code.Code.{done, skip, assign, put, branch, loop, lock}
use Rattle.script.specs.Trees.{Valid}
use Rattle.model.proofs.Tests.{both, and_left, and_right}

-- Every expression reads declared variables, of which there are n.
abbrev pub reads : ℕ → Expr → Bool
reads n [] = true
reads n (constant z ∷ e) = reads n e
reads n (variable x ∷ e) = ltb x n && reads n e
reads n (sample t ∷ e) = reads n e
reads n (held t ∷ e) = reads n e
reads n (binary b ∷ e) = reads n e
reads n (unary u ∷ e) = reads n e

abbrev pub declared : ℕ → Code → Bool
declared n done = true
declared n (skip c) = declared n c
declared n (assign x e c) = reads n e && declared n c
declared n (put h e c) = reads n e && declared n c
declared n (branch e p q c) = (reads n e && declared n p) && (declared n q && declared n c)
declared n (loop e b c) = reads n e && (declared n b && declared n c)
declared n (lock m e b c) = reads n e && (declared n b && declared n c)

abbrev pub all_declared : ℕ → List Code → Bool
all_declared n [] = true
all_declared n (c ∷ cs) = declared n c && all_declared n cs

-- An expression of declared variables and tracks reads declared variables.
sound_reads : (h : Head) (e : Expr) → T (declared_names h e) → T (reads h.variables e)
sound_reads h [] d = tt
sound_reads h (constant z ∷ e) d = sound_reads h e d
sound_reads h (variable x ∷ e) d = both (ltb x h.variables) (reads h.variables e) (and_left (ltb x h.variables) (declared_names h e) d) (sound_reads h e (and_right (ltb x h.variables) (declared_names h e) d))
sound_reads h (sample t ∷ e) d = sound_reads h e (and_right (ltb t h.tracks) (declared_names h e) d)
sound_reads h (held t ∷ e) d = sound_reads h e (and_right (ltb t h.tracks) (declared_names h e) d)
sound_reads h (binary b ∷ e) d = sound_reads h e d
sound_reads h (unary u ∷ e) d = sound_reads h e d

valid_declared : (h : Head) (d : ℕ) (c : Code) → Valid h d c → T (declared h.variables c)
valid_declared h d done v = tt
valid_declared h d (skip c) v = valid_declared h d c v
valid_declared h d (assign x e c) v = both (reads h.variables e) (declared h.variables c) (sound_reads h e v.1.0) (valid_declared h d c v.2)
valid_declared h d (put o e c) v = both (reads h.variables e) (declared h.variables c) (sound_reads h e v.1.0) (valid_declared h d c v.2)
valid_declared h d (branch e p q c) v =
    let n = h.variables in
    both (reads n e && declared n p) (declared n q && declared n c)
    (both (reads n e) (declared n p) (sound_reads h e v.1.0) (valid_declared h (suc d) p v.2))
    (both (declared n q) (declared n c) (valid_declared h (suc d) q v.3) (valid_declared h d c v.4))
valid_declared h d (loop e b c) v =
    let n = h.variables in
    both (reads n e) (declared n b && declared n c) (sound_reads h e v.1.0) (both (declared n b) (declared n c) (valid_declared h (suc d) b v.2) (valid_declared h d c v.3))
valid_declared h d (lock m e b c) v =
    let n = h.variables in
    both (reads n e) (declared n b && declared n c) (sound_reads h e v.2.0) (both (declared n b) (declared n c) (valid_declared h (suc d) b v.3) (valid_declared h d c v.4))

pub all_valid_declared : (h : Head) (cs : List Code) → AllByRecursion (Valid h 0) cs → T (all_declared h.variables cs)
all_valid_declared h [] v = tt
all_valid_declared h (c ∷ cs) v = both (declared h.variables c) (all_declared h.variables cs) (valid_declared h 0 c v.0) (all_valid_declared h cs v.1)
