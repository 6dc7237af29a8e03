mod FirstTooLarge
