-- `DeductionCache::insert`: the entries are those of the cache.
use Rattle.solve_core.proofs.deducing.deduction_cache.DeductionCache.insert.Goals as goal

pub returns-in-Some : goal.returns-in-Some
returns-in-Some g c = rw (← c.self.view_is) c.insert_entry.ensures.entries
