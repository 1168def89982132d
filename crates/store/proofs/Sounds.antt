-- Each store is sound, by its type.
use Rattle.store.specs.declared.types.Store.{Store}
use Rattle.store.specs.Stores.{Sound}

pub sound_in : (a : Store) → Sound a
sound_in a = record {
  shared = a.shared;
  chains = a.chains;
  fits = a.fits;
  within = a.within;
  limited = a.limited;
  some = a.some;
}
