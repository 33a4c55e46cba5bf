-- The tokens of the code, as the definitions see them.
use Rattle.dsp_script.specs.declared.token.Token.{Token as Seen}
use Rattle.dsp_script.specs.declared.token.Token.TheVariants as seen
use Rattle.dsp_script.specs.declared.token.Item.{Item as SeenItem}
use Rattle.dsp_defs.specs.Token.{Token, Open, Close, Run, Item}

abbrev pub token_view : Seen → Token
token_view seen.Open = Open
token_view seen.Close = Close
token_view (seen.Run run) = Run run.now

abbrev pub item_view : SeenItem → Item
item_view item = record { offset = item.offset; token = token_view item.token }
