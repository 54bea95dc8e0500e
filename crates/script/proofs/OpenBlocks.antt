-- The open blocks of a state.
use Rattle.std.proofs.Common.{◌≡◌, ℕ, zero, suc, ◌+◌, ◌<◌, ◌≤◌, ◌≢◌, List, ◌∷◌, length, set, refl, ap, ◌∙◌, add-one, arith, get_or-set_other, get_or-set_same}
use Rattle.script.specs.declared.blocks.Block.{Block}
use Rattle.script.specs.declared.blocks.Block.TheVariants.{BeforeElse}
use Rattle.script.specs.Stages.{block_of, held_blocks}

pub held_length : (n : ℕ) (bs : List Block) → length (held_blocks n bs) ≡ n
held_length zero bs = refl
held_length (suc n) bs = ap suc (held_length n bs)

pub held_set : (n : ℕ) (bs : List Block) (i : ℕ) (b : Block) → n ≤ i → held_blocks n (set bs i b) ≡ held_blocks n bs
held_set zero bs i b h = refl
held_set (suc n) bs i b h =
    let ne : n ≢ i = omega arith in
    (λ j. block_of (get_or-set_other bs i n b BeforeElse ne j) ∷ held_set n bs i b (omega arith) j)

pub held_more : (n : ℕ) (bs : List Block) (b : Block) → n < length bs → held_blocks (n + 1) (set bs n b) ≡ block_of b ∷ held_blocks n bs
held_more n bs b h =
    ap (λ m. held_blocks m (set bs n b)) (add-one n)
    ∙ (λ j. block_of (get_or-set_same bs n b BeforeElse h j) ∷ held_set n bs n b (omega arith) j)
