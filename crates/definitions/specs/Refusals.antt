-- The number of each refusal. A fault frame carries it, and a refusal prints it.
use Rattle.std.specs.Prelude.{ℕ}

-- ---- the wire

-- the first four bytes are another hello
abbrev pub bad_hello : ℕ
bad_hello = 1

-- a frame's length is 0 or above the limit, or its body ends before a field does; a part's body would be above the
-- limit
abbrev pub frame_length : ℕ
frame_length = 2

-- the bytes end before the message or the session does
abbrev pub truncated : ℕ
truncated = 3

-- a kind of frame that may not stand here
abbrev pub bad_kind : ℕ
bad_kind = 4

-- a bound's length byte
abbrev pub bad_bound : ℕ
bad_bound = 5

-- the lower bound of a range that was read is not below the upper
abbrev pub empty_range : ℕ
empty_range = 6

-- an item's length byte
abbrev pub item_length : ℕ
item_length = 7

-- an item is not greater than the one before it
abbrev pub item_order : ℕ
item_order = 8

-- an item is outside the range of its part
abbrev pub item_outside : ℕ
item_outside = 9

-- an unused mark bit is set
abbrev pub mark_padding : ℕ
mark_padding = 10

-- bytes after the last field of a body, or after a message
abbrev pub trailing : ℕ
trailing = 11

-- one part more than a message may have
abbrev pub too_many_parts : ℕ
too_many_parts = 12

-- ---- placing, and an end

-- a part that belongs to no open part, or no Sum over everything where the first message is due
abbrev pub misplaced : ℕ
misplaced = 20

-- a Sum over the very range of the open Sum
abbrev pub stall : ℕ
stall = 21

-- a partition that does not go on where it has come to, or is not closed
abbrev pub gap : ℕ
gap = 22

-- a list without its answer
abbrev pub missing_answer : ℕ
missing_answer = 23

-- an answer with more or fewer marks than listed items
abbrev pub mark_count : ℕ
mark_count = 24

-- an answer that has a listed item
abbrev pub answer_repeats : ℕ
answer_repeats = 25

-- the end was refused before, or its session is over
abbrev pub spent : ℕ
spent = 26

-- ---- strategies, and the checker

-- the opening of a strategy is neither sum nor split, or stands in a row
abbrev pub bad_opening : ℕ
bad_opening = 28

-- the bounds of a strategy are neither items nor short
abbrev pub bad_bounds : ℕ
bad_bounds = 29

-- the text is no TOML
abbrev pub not_toml : ℕ
not_toml = 30

-- a field of a strategy is not there
abbrev pub missing_field : ℕ
missing_field = 31

-- a number of a strategy is none, or out of range
abbrev pub bad_number : ℕ
bad_number = 32

-- a row's upto is not above that of the row before
abbrev pub row_order : ℕ
row_order = 33

-- a row neither lists nor splits, or does not say how
abbrev pub row_action : ℕ
row_action = 34

-- the last row's upto is not the cap
abbrev pub cap_mismatch : ℕ
cap_mismatch = 35

-- a row cuts a count into fewer than two parts
abbrev pub no_descent : ℕ
no_descent = 36

-- a list row reaches past the limit
abbrev pub list_too_long : ℕ
list_too_long = 37

-- a count's rank exceeds the rounds
abbrev pub too_deep : ℕ
too_deep = 38

-- a list of numbers is no staircase, or does not serve a count
abbrev pub bad_certificate : ℕ
bad_certificate = 39

-- ---- the log and its lock

-- no room for another item
abbrev pub full : ℕ
full = 40

-- the lock was held
abbrev pub busy : ℕ
busy = 41

-- no writer number is left
abbrev pub writers_spent : ℕ
writers_spent = 42

-- ---- the session table, and the engines' gate

-- as many sessions are live as the table has room for
abbrev pub table_full : ℕ
table_full = 50

-- no live session has this number
abbrev pub unknown : ℕ
unknown = 51

-- the session has sent as many messages as it may
abbrev pub over_bound : ℕ
over_bound = 52

-- no serial is left
abbrev pub serials_spent : ℕ
serials_spent = 53

-- the gate said no
abbrev pub gate_closed : ℕ
gate_closed = 54

-- ---- sockets

-- no socket listens on this address
abbrev pub bind : ℕ
bind = 60

-- no connection to this address
abbrev pub connect : ℕ
connect = 61

-- no connection was accepted
abbrev pub accept : ℕ
accept = 62

-- ---- items and ranges that are made

-- an item or an upper bound of no bytes
abbrev pub empty_item : ℕ
empty_item = 71

-- an item or a bound of more than 64 bytes
abbrev pub too_long : ℕ
too_long = 72

-- the lower bound of a range that is made is not below the upper
abbrev pub empty_bounds : ℕ
empty_bounds = 73

-- ---- files, inputs and scenarios

-- a file or an input was not opened or not read, or is above its limit
abbrev pub cannot_read : ℕ
cannot_read = 80

-- a line that is not the hex of an item; hex input that is none
abbrev pub bad_item_line : ℕ
bad_item_line = 81

-- more distinct items than the cap
abbrev pub too_many_items : ℕ
too_many_items = 82

-- a scenario without its nodes, items or steps
abbrev pub bad_scenario : ℕ
bad_scenario = 83

-- a step's text of no form
abbrev pub bad_step : ℕ
bad_step = 84

-- ---- any call that allocates

-- memory was refused
abbrev pub no_memory : ℕ
no_memory = 90
