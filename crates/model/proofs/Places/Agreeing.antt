-- Frames and trees go together.
use Rattle.model.specs.Places.{PlacesAgree}
use Rattle.model.specs.Threads.{ended}
use Rattle.std.proofs.Common.{get_or}
use Rattle.model.proofs.Places.Beginning.{run_begins}
use Rattle.model.proofs.Places.Standing.{step_moves, step_others}
use Rattle.model.proofs.Places.Unique.{one_code}
use Rattle.model.proofs.Places.Within.{begin_valid, step_valid, depth}

pub places_agree : PlacesAgree
places_agree = record {
  begins = run_begins;
  moves = λ k sc fs r s i h at-spot. step_moves k sc fs r s i h at-spot;
  others = λ k sc s i j ne. let t = get_or s.threads i ended in step_others k sc s i t.code t.pace t.inside j ne;
  one_code = λ fs r r' a b c d os ps e h g. (one_code fs r r' a b c d os ps e h g).0;
  begins_valid = begin_valid;
  stays_valid = λ k sc h s i l v. step_valid k sc h s i l v;
  depth = λ h t v. depth h t.inside v.inside;
}
