-- One walk over a script's frames decides what memory says of a thread.
use Rattle.model.specs.Fitting.{PlacesFit}
use Rattle.model.proofs.Places.Accounted.{stands, spots, account_fits, rebuilt, one_thread, walk_begins, through, at_end, begin_accounts}
use Rattle.model.proofs.Places.Whole.{all_fits, all_rebuilt, all_one}
use Rattle.model.proofs.Places.Stacking.{opens, ends, deep, counts}
use Rattle.model.proofs.Places.Shallow.{shallow}
use Rattle.model.proofs.Places.Keeping.{stays_coded, starts_so, stays_so}

pub places_fit : PlacesFit
places_fit = record {
  stands = stands;
  spots = spots;
  fits = account_fits;
  rebuilt = rebuilt;
  one = one_thread;
  all_fits = all_fits;
  all_rebuilt = all_rebuilt;
  all_one = all_one;
  walk_begins = walk_begins;
  through = through;
  at_end = at_end;
  begins = begin_accounts;
  shallow = shallow;
  stays_coded = stays_coded;
  starts_so = starts_so;
  stays_so = stays_so;
  opens = opens;
  ends = ends;
  deep = deep;
  counts = counts;
}
