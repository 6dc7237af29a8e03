use Rattle.field_split.specs.Cutting.{pieces_of}
use Rattle.field_split.proofs.StripeLemmas.{stripe_list_is, one_stripe_list, pieces_are_shots, pieces_fit, pieces_in_fields}
use Rattle.field_split.proofs.TileLemmas.{stripe_counted, all_counted}
use Rattle.field_split.proofs.FewLemmas.{pieces_few}
use Rattle.field_split.proofs.laws.field_laws.Goals as goal

pub returns-clause-some : goal.returns-clause-some
returns-clause-some c = λ size k shots sized h. (pieces_of size k shots, stripe_list_is size k sized shots h)

pub returns-clause-one : goal.returns-clause-one
returns-clause-one c = λ size k shots xs ys sized h p q. one_stripe_list size k sized shots xs ys h p q

pub returns-clause-shots : goal.returns-clause-shots
returns-clause-shots c = λ size k shots pieces sized h list. pieces_are_shots size k sized shots pieces h list

pub returns-clause-fit : goal.returns-clause-fit
returns-clause-fit c = λ size k height width shots pieces sized h f list. pieces_fit size k sized height width shots pieces h f list

pub returns-clause-in_fields : goal.returns-clause-in_fields
returns-clause-in_fields c = λ size k shots pieces sized h list. pieces_in_fields size k sized shots pieces h list

pub returns-clause-stripe_tiles : goal.returns-clause-stripe_tiles
returns-clause-stripe_tiles c = λ size k shots pieces t sized h list r. stripe_counted size k sized t shots pieces list r

pub returns-clause-tiles : goal.returns-clause-tiles
returns-clause-tiles c = λ size first last shots lists t sized h within list e. all_counted size sized t first last shots lists within list e

pub returns-clause-few : goal.returns-clause-few
returns-clause-few c = λ size k shots pieces sized h list. pieces_few size k shots pieces sized h list
