-- What the programs say of themselves, what their words say, and what a program of one file, `report` or `rewrite`, does by its words.
--
-- asks_help w           the word asks for help
-- help_asked a b c      one of a program's first three words does, wherever it stands among them; a word that is not given is empty
-- is_option w           the word begins as an option does, and is not "-"; is_dash w: it is "-", which stands for standard input
-- two_files a b         the words a and b name two files: neither is an option, and standard input, "-", is one of them at most
-- channel_asked w       the channel that the word w names: `read`, `write`, and nothing else
-- plain_number w        the word w is a number: digits, at least one, "no sign, no leading zero except 0 itself"
-- number_asked w m      the number that the word w says, m standing for every number above m
-- address_asked w       the address that the word w says, "a start address of 32 bits" (document 02, item 6); a larger number is none
-- file_asked n a b c t  what a program of one file does, started with n words, of which a, b and c are the first three: help, if
--                       asked; usage, for more than one word or an option; the file that its one word names, "-" too; without a
--                       word standard input, or usage where that is a terminal (t)
-- report_usage, rewrite_usage, simulate_usage, why_usage, split_usage   what is said where the arguments are wrong
-- report_help, rewrite_help, simulate_help, why_help, split_help       what is said where help is asked for
use Rattle.std.specs.Prelude.{ℕ, min, Option, Some, None, Bool, ◌&&◌, ◌||◌, not, List, ◌++◌, eqb, ltb, leb, length, get_or}
use Rattle.folds.specs.Fold.{pick}
use Rattle.text.specs.Text.{same, all_digits, decimal, leading_zero}
use Rattle.put.specs.Page.{bytes}
use Rattle.model.specs.declared.Channel.{Channel}
use Rattle.model.specs.declared.Channel.TheVariants.{Read, Write}
use Rattle.usage.specs.declared.Asked.{Asked}
use Rattle.usage.specs.declared.Asked.TheVariants.{Usage, Help, Run}
use Rattle.usage.specs.declared.Source.{Source}
use Rattle.usage.specs.declared.Source.TheVariants.{Input, File}

abbrev pub asks_help : List ℕ → Bool
asks_help w = same w (bytes "-h") || same w (bytes "--help")

abbrev pub help_asked : List ℕ → List ℕ → List ℕ → Bool
help_asked a b c = (asks_help a || asks_help b) || asks_help c

abbrev pub is_option : List ℕ → Bool
is_option w = ltb 1 (length w) && eqb (get_or w 0 0) 45

abbrev pub is_dash : List ℕ → Bool
is_dash w = same w (bytes "-")

abbrev pub two_files : List ℕ → List ℕ → Bool
two_files a b = not (is_option a || is_option b) && not (is_dash a && is_dash b)

unfoldable pub channel_asked : List ℕ → Option Channel
channel_asked w = pick (same w (bytes "read")) (Some Read) (pick (same w (bytes "write")) (Some Write) None)

abbrev pub plain_number : List ℕ → Bool
plain_number w = not (eqb (length w) 0) && not (leading_zero w) && all_digits w

unfoldable pub number_asked : List ℕ → ℕ → Option ℕ
number_asked w m = pick (plain_number w) (Some (min (decimal w) m)) None

unfoldable pub address_asked : List ℕ → Option ℕ
address_asked w = pick (plain_number w && leb (decimal w) 4294967295) (Some (decimal w)) None

unfoldable pub file_asked : ℕ → List ℕ → List ℕ → List ℕ → Bool → Asked Source
file_asked n a b c t =
    pick (help_asked a b c) Help
    (pick (ltb 1 n || is_option a) Usage
    (pick (eqb n 1) (Run File)
    (pick t Usage (Run Input))))

abbrev pub report_usage : List ℕ
report_usage = bytes "usage: report [FILE]\nexample: report scanner.tree\n"

abbrev pub report_help : List ℕ
report_help =
    bytes "report [FILE]: from a tree file, whether each accelerator's job meets its period at worst.\n"
    ++ bytes "FILE is a tree file; standard input without one, or with -.\n"
    ++ bytes "Columns: accelerator, level, sr and sw (share of reads and of writes), yr and yw (interfering reads and writes),\n"
    ++ bytes "response (with the wait for new windows) and period in cycles, verdict.\n"
    ++ bytes "A refused file prints \"refused\", the number of the cause and the line; standard error says it in words.\n"
    ++ bytes "example: report scanner.tree\n"

abbrev pub rewrite_usage : List ℕ
rewrite_usage = bytes "usage: rewrite [FILE]\nexample: rewrite scanner.tree\n"

abbrev pub rewrite_help : List ℕ
rewrite_help =
    bytes "rewrite [FILE]: writes the tree of a tree file back as text; two files of the same tree give the same text.\n"
    ++ bytes "FILE is a tree file; standard input without one, or with -.\n"
    ++ bytes "The bus or bus3 line, without a return delay of 0; the int lines by number; the acc lines by interconnect, then by port.\n"
    ++ bytes "The text goes to standard output. Do not send it to FILE itself, which the shell empties before it is read.\n"
    ++ bytes "A refused file prints \"refused\", the number of the cause and the line; standard error says it in words.\n"
    ++ bytes "example: rewrite scanner.tree\n"

abbrev pub simulate_usage : List ℕ
simulate_usage = bytes "usage: simulate CHANNEL TREE TRACE [SLOTS]\nexample: simulate read scanner.tree scanner.trace 100\n"

abbrev pub simulate_help : List ℕ
simulate_help =
    bytes "simulate CHANNEL TREE TRACE [SLOTS]: runs a trace of requests on a tree, and says who is served in each slot.\n"
    ++ bytes "CHANNEL is read or write: reads and writes travel apart, and a trace is of one channel.\n"
    ++ bytes "TREE and TRACE are files; one of the two may be -, standard input. SLOTS is 0 to 65536, or 65536 without one.\n"
    ++ bytes "A line for each slot: its number, and the accelerator served or idle; then done or stopped, and the slots used.\n"
    ++ bytes "Requests of an accelerator whose job has none on CHANNEL stay held, so that the run goes on to SLOTS and is stopped.\n"
    ++ bytes "A refused file prints \"refused\", the number of the cause and the line; standard error says it in words.\n"
    ++ bytes "example: simulate read scanner.tree scanner.trace 100\n"

abbrev pub why_usage : List ℕ
why_usage = bytes "usage: why CHANNEL TREE TRACE ACC NUMBER\nexample: why read scanner.tree scanner.trace 1 3\n"

abbrev pub why_help : List ℕ
why_help =
    bytes "why CHANNEL TREE TRACE ACC NUMBER: runs a trace of requests on a tree, and says why a transaction waited.\n"
    ++ bytes "CHANNEL is read or write: reads and writes travel apart, and a trace is of one channel.\n"
    ++ bytes "TREE and TRACE are files; one of the two may be -, standard input. The run has 65536 slots at most.\n"
    ++ bytes "NUMBER is that of a transaction of accelerator ACC, counted from 1 in the order of service.\n"
    ++ bytes "Requests of an accelerator whose job has none on CHANNEL stay held, and none of them is served.\n"
    ++ bytes "A line for each slot from its admission up to the one before its service, the first 32768 of them: the slot, the\n"
    ++ bytes "accelerator served, and the deepest interconnect on both paths, or own; then waited, and the count of all.\n"
    ++ bytes "A refusal prints \"refused\", the number of the cause and the line; standard error says it in words.\n"
    ++ bytes "example: why read scanner.tree scanner.trace 1 3\n"

abbrev pub split_usage : List ℕ
split_usage = bytes "usage: split TREE ADDRESS BEATS SIZE\nexample: split scanner.tree 4096 40 4\n"

abbrev pub split_help : List ℕ
split_help =
    bytes "split TREE ADDRESS BEATS SIZE: cuts a burst into pieces of the tree's burst length B.\n"
    ++ bytes "TREE is a tree file, or -, standard input. The other words are decimal: ADDRESS is 0 to 4294967295, BEATS 1 to 256, or\n"
    ++ bytes "to 16 where the first line of TREE is bus3, and SIZE, the bytes of a beat, 1, 2, 4, 8, 16, 32, 64 or 128.\n"
    ++ bytes "A line for each piece: its start address and its beats, which are B except perhaps in the last; then pieces, and their count.\n"
    ++ bytes "Each piece is one transaction for phi and for the budget.\n"
    ++ bytes "Other BEATS or another SIZE are refused by 15, a burst that crosses a multiple of 4096 by 16, both with line 0.\n"
    ++ bytes "A refusal prints \"refused\", the number of the cause and the line; standard error says it in words.\n"
    ++ bytes "example: split scanner.tree 4096 40 4\n"
